-- What private functions carry and promise: what a command does as one value, and what running a list and running a command leave still to come. No public
-- contract cites this.
use Rattle.std.specs.Prelude.{ℕ, suc, ◌+◌, ◌-◌, ◌*◌, ◌≤◌, ◌<◌, cond, ◌&&◌, ◌≡◌, Option, Some, None, Result, Ok, Err, List, [], ◌∷◌, eqb, leb, length}
use Rattle.rdp_words.specs.Words.{bytes_of, pasted}
use Rattle.rdp_words.specs.Kinds.{between}
use Rattle.rdp_words.specs.Grounds.{number_of}
use Rattle.rdp_words.specs.declared.grounds.Ground.{Ground}
use Rattle.rdp_words.specs.declared.grounds.Ground.TheVariants.{NoCommand, TooManyCommands, Unknown, Invalid}
use Rattle.f3dex2.specs.Commands.{first_byte, low_half, Role, straight, rectangle, modes, list, end, unnamed, role_of, command_word, second_word, modes_word, inside, setting_after, setting_first, parameter, far, calls}
use Rattle.f3dex2.specs.Walk.{Walked, stopped, counted, written, readable, resumed, walk}
use Rattle.f3dex2.specs.declared.Due.{Due}
use Rattle.f3dex2.specs.declared.Due.TheVariants.{Command, FirstHalf, SecondHalf}
use Rattle.f3dex2.specs.declared.Setting.{Setting}
use Rattle.f3dex2.specs.declared.Action.{Action}
use Rattle.f3dex2.specs.declared.Action.TheVariants.{Write, Pass, Call, Branch, End}
use Rattle.f3dex2.specs.declared.Walker.{Walker}
use Rattle.f3dex2.specs.declared.Refused.{Refused}
use Rattle.f3dex2.specs.declared.Translated as made
use Rattle.f3dex2.specs.declared.Untranslated.{Untranslated}

-- ---- what a command does, or why it is refused

-- two words of the other modes, where no half-word is due
abbrev pub modes_only : ℕ → ℕ → Setting
modes_only high low = record { high = high; low = low; due = Command }

-- 0xDE, with so many calls open
abbrev pub list_action : ℕ → ℕ → Result Action Ground
list_action depth w =
    cond (far w) (Err Invalid)
    (cond (calls w) (cond (leb 8 depth) (Err Invalid) (Ok (Call (low_half w))))
    (cond (eqb (parameter w) 1) (Ok (Branch (low_half w))) (Err Invalid)))

abbrev pub modes_action : Setting → ℕ → Result Action Ground
modes_action s w = cond (inside w) (Ok (Write (modes_word s))) (Err Invalid)

abbrev pub role_action : Role → Setting → ℕ → ℕ → ℕ → Result Action Ground
role_action straight s depth n w = cond (between 0xFD 0xFF n && far w) (Err Invalid) (Ok (Write (command_word w)))
role_action rectangle s depth n w = Ok (Write (command_word w))
role_action modes s depth n w = modes_action s w
role_action list s depth n w = list_action depth w
role_action end s depth n w = Ok End
role_action unnamed s depth n w = Err Unknown

-- by what is due, with the setting after the command
abbrev pub action_by : Due → Setting → ℕ → ℕ → ℕ → Result Action Ground
action_by Command s depth n w = role_action (role_of n) s depth n w
action_by FirstHalf s depth n w = cond (eqb n 0xE1) (Ok Pass) (Err Unknown)
action_by (SecondHalf first) s depth n w = cond (eqb n 0xF1) (Ok (Write (second_word first w))) (Err Unknown)

unfoldable pub action_of : Setting → ℕ → ℕ → Result Action Ground
action_of s depth w = action_by s.due (setting_after s w) depth (first_byte w) w

-- the walk from there on, by what the command at an offset does, with the setting after it
abbrev pub acted : (List ℕ → ℕ → Setting → Walked) → List ℕ → ℕ → Setting → Action → Walked
acted go returns at s (Write x) = written x (go returns (at + 8) s)
acted go returns at s Pass = go returns (at + 8) s
acted go returns at s (Call target) = go ((at + 8) ∷ returns) target s
acted go returns at s (Branch target) = go returns target s
acted go returns at s End = resumed go returns s

-- with the command, or where it is refused
abbrev pub perform : (List ℕ → ℕ → Setting → Walked) → List ℕ → ℕ → ℕ → Setting → Result Action Ground → Walked
perform go returns at w s (Ok action) = counted w (acted go returns at s action)
perform go returns at w s (Err g) = stopped (number_of g) at

-- 20 or 21, where no command can be read
abbrev pub read_refusal : List ℕ → ℕ → ℕ → Result (Unit {0}) Ground
read_refusal memory at read = cond (readable memory at) (cond (leb 4096 read) (Err TooManyCommands) (Ok tt)) (Err NoCommand)

-- ---- the output

-- word k of an output, where it fits
unfoldable pub put_word : ℕ → ℕ → List ℕ → List ℕ
put_word k w out = cond (leb (8 * k + 8) (length out)) (pasted (8 * k) (bytes_of w) out) out

-- words from the kth on
abbrev pub put_words : ℕ → List ℕ → List ℕ → List ℕ
put_words k [] out = out
put_words k (w ∷ ws) out = put_words (suc k) ws (put_word k w out)

-- ---- how far a walk has come

-- before the first command
pub record Starts (memory out : List ℕ) (w : Walker) : Type 0 where
  pub reads : w.memory.now ≡ memory
  pub writes : w.out.now ≡ out
  pub setting : w.setting ≡ setting_first
  pub read : w.read ≡ 0
  pub written : w.written ≡ 0

-- a walk that is over, with its output
pub record Settled : Type 0 where
  pub number : ℕ
  pub place : ℕ
  pub read : ℕ
  pub words : ℕ
  pub out : List ℕ

abbrev pub refused_with : ℕ → ℕ → Walker → Settled
refused_with number place v = record { number = number; place = place; read = v.read; words = v.written; out = v.out.now }

-- what is to come, settled on what has been read and written
abbrev pub settled_on : Walked → Walker → Settled
settled_on r w =
    record {
      number = r.number;
      place = r.place;
      read = w.read + length r.commands;
      words = w.written + length r.words;
      out = put_words w.written r.words w.out.now;
    }

abbrev pub walk_left : Walker → List ℕ → ℕ → Setting → Walked
walk_left w = walk w.memory.now (4096 - w.read)

abbrev pub walk_from : Walker → List ℕ → ℕ → Settled
walk_from w returns at = settled_on (walk_left w returns at w.setting) w

-- on by what a command does
abbrev pub walk_by : Walker → List ℕ → ℕ → Action → Settled
walk_by w returns at action = settled_on (acted (walk_left w) returns at w.setting action) w

-- on after the end of a list
abbrev pub walk_back : Walker → List ℕ → Settled
walk_back w returns = settled_on (resumed (walk_left w) returns w.setting) w

-- more is read, and no more than may be
pub record Later (w v : Walker) : Type 0 where
  pub most : v.read ≤ 4096
  pub more : w.read < v.read

-- the walk from an offset, whatever stands on the stack of `depth` offsets to return to, is refused, goes on elsewhere, or ends its list
pub record Refuses (w : Walker) (at depth number place : ℕ) (v : Walker) : Type 0 where
  pub same : (returns : List ℕ) → length returns ≡ depth → walk_from w returns at ≡ refused_with number place v

pub record Goes (w : Walker) (at depth on : ℕ) (v : Walker) : Type 0 where
  pub later : Later w v
  pub same : (returns : List ℕ) → length returns ≡ depth → walk_from w returns at ≡ walk_from v returns on

pub record Ends (w : Walker) (at depth : ℕ) (v : Walker) : Type 0 where
  pub later : Later w v
  pub same : (returns : List ℕ) → length returns ≡ depth → walk_from w returns at ≡ walk_back v returns

-- the command at an offset is read
pub record Reads (w : Walker) (at depth : ℕ) (action : Action) (v : Walker) : Type 0 where
  pub there : at + 8 ≤ length w.memory.now
  pub most : v.read ≤ 4096
  pub more : v.read ≡ w.read + 1
  pub written : v.written ≡ w.written
  pub same : (returns : List ℕ) → length returns ≡ depth → walk_from w returns at ≡ walk_by v returns at action

abbrev pub ReadIs : Walker → ℕ → ℕ → Result Action Ground → Walker → Type 0
ReadIs w at depth (Ok action) v = Reads w at depth action v
ReadIs w at depth (Err g) v = Refuses w at depth (number_of g) at v

abbrev pub StepIs : Walker → ℕ → ℕ → Result (Option ℕ) Refused → Walker → Type 0
StepIs w at depth (Ok (Some on)) v = Goes w at depth on v
StepIs w at depth (Ok None) v = Ends w at depth v
StepIs w at depth (Err r) v = Refuses w at depth (number_of r.ground) r.place v

abbrev pub ListIs : Walker → ℕ → ℕ → Result (Unit {0}) Refused → Walker → Type 0
ListIs w at depth (Ok _) v = Ends w at depth v
ListIs w at depth (Err r) v = Refuses w at depth (number_of r.ground) r.place v

-- the whole walk comes to its end, or is refused
pub record Finished (r : Walked) (t : made.Translated) : Type 0 where
  pub number : r.number ≡ 0
  pub words : length r.words ≡ t.words
  pub read : length r.commands ≡ t.read

pub record Cut (r : Walked) (u : Untranslated) : Type 0 where
  pub number : r.number ≡ number_of u.ground
  pub place : r.place ≡ u.place
  pub read : length r.commands ≡ u.read

abbrev pub WalkIs : Walked → Result made.Translated Untranslated → Type 0
WalkIs r (Ok t) = Finished r t
WalkIs r (Err u) = Cut r u
