-- What the check's loop carries and reads, as a view of the state and of a command. No public contract cites this.
use Rattle.std.specs.Prelude.{ℕ, zero, suc, ◌+◌, ◌/◌, ◌%◌, ◌<◌, Bool, true, false, cond, not, ◌&&◌, ◌||◌, List, [], ◌∷◌, ◌≡◌, eqb, length}
use Rattle.rdp_words.specs.Words.{word_at}
use Rattle.rdp_words.specs.Kinds.{among, is_among, is_unassigned, words_of}
use Rattle.rdp_command.specs.declared.Head.{Head}
use Rattle.rdp_command.specs.Reads.{head_of}
use Rattle.rdp_hazards.specs.Hazards.{next_of, required_of}
use Rattle.rdp_check.specs.Commands.{commands_of, rest_of}
use Rattle.rdp_hazards.specs.Marks.{draws}
use Rattle.rdp_check.specs.Cause.{cause_of}
use Rattle.rdp_check.specs.Check.{State, Refusals, check_refusals, repair_refusals, Judgement, judge_list}
use Rattle.rdp_check.specs.declared.walk.Rest.{Rest}
use Rattle.rdp_check.specs.declared.walk.View.{View}
use Rattle.rdp_check.specs.declared.walk.Advanced.{Advanced}
use Rattle.rdp_check.specs.declared.walk.Seen.{Seen}
use Rattle.rdp_check.specs.declared.walk.Seen.TheVariants.{Unset, Plain, Special}
use Rattle.rdp_check.specs.declared.walk.Stop as walked
use Rattle.rdp_check.specs.declared.walk.Caused as walked_whole
use Rattle.rdp_words.specs.Grounds.{number_if}

-- a register that a draw needs: special where it is set to what the other must not meet
abbrev pub code : Bool → Bool → Seen
code false special = Unset
code true false = Plain
code true true = Special

abbrev pub is_set : Seen → Bool
is_set Unset = false
is_set Plain = true
is_set Special = true

abbrev pub is_special : Seen → Bool
is_special Unset = false
is_special Plain = false
is_special Special = true

-- the refusal of a draw, or 0, by the modes (special is FILL) and colour image (special is 4 bits), and whether the scissor is set
abbrev pub code_refusal : Seen → Seen → Bool → ℕ
code_refusal modes image scissor =
    cond (not ((is_set modes && is_set image) && scissor)) 5 (cond (is_special modes && is_special image) 6 0)

-- what is carried: the hazards, whether a Sync Full has come, and these three
abbrev pub view : ℕ → Bool → Seen → Seen → Bool → View
view hazards ended modes image scissor =
    record {
      hazards = hazards;
      rest = record { ended = ended; modes = modes; image = image; scissor = scissor };
    }

-- the view of a state
unfoldable pub view_of : State → View
view_of s =
    let r = s.registers in
    view s.hazards s.ended (code r.modes.other.set (eqb r.modes.other.value.cycle_type 3))
    (code r.images.color.set (eqb r.images.color.value.size 0)) r.modes.scissor.set

-- what is carried beside the hazards after a command, and the view after it
unfoldable pub rest_after : Rest → Head → Rest
rest_after r h =
    let n = h.number in
    record {
      ended = eqb n 0x29 || r.ended;
      modes = cond (eqb n 0x2F) (code true (eqb h.cycle_type 3)) r.modes;
      image = cond (eqb n 0x3F) (code true (eqb h.image_size 0)) r.image;
      scissor = eqb n 0x2D || r.scissor;
    }

abbrev pub view_after : View → Head → View
view_after v h = record { hazards = next_of v.hazards h.number; rest = rest_after v.rest h }

-- of two refusals the first, where 0 is none
abbrev pub or_else : ℕ → ℕ → ℕ
or_else zero g = g
or_else (suc f) g = suc f

-- 7, 8, 9: the sync required is missing
abbrev pub missing : ℕ → ℕ
missing required = cond (eqb required 0) 0 (6 + required)

-- the refusal of a command: 4, then 19 or its refusal as a draw, then a missing sync
unfoldable pub refusal_with : Bool → ℕ → ℕ → ℕ
refusal_with ended own required = cond ended 4 (or_else own (missing required))

-- the refusals of a strict walk are those of the check, of another those of the repair
abbrev pub refusals_by : Bool → Refusals
refusals_by true = check_refusals
refusals_by false = repair_refusals

-- number and place of a judgement of a list's commands, by the one or the other
pub record IsJudged (list : List ℕ) (number place : ℕ) : Type 0 where
  pub strict : Bool
  pub is_number : number ≡ (judge_list (refusals_by strict) list).number
  pub is-place : place ≡ (judge_list (refusals_by strict) list).place

-- the refusal of a draw by what is carried
abbrev pub rest_refusal : Rest → ℕ
rest_refusal r = code_refusal r.modes r.image r.scissor

-- 19 of an unassigned number, that of a draw, or 0
abbrev pub own_refusal : Rest → ℕ → ℕ
own_refusal r n = cond (is_unassigned n) 19 (cond (draws n) (rest_refusal r) 0)

abbrev pub view_refusal : Bool → View → ℕ → ℕ
view_refusal strict v n = refusal_with v.rest.ended (own_refusal v.rest n) (cond strict (required_of v.hazards n) 0)

-- a Sync Full, or a command that sets a register of which something is carried
unfoldable pub sets_rest : ℕ → Bool
sets_rest n = among n (0x29 ∷ 0x2D ∷ 0x2F ∷ 0x3F ∷ [])

-- a command that the walk has to look into: it changes more than the hazards, or something but a missing sync refuses it
abbrev pub is_watched : Rest → ℕ → Bool
is_watched r n = r.ended || ((sets_rest n || is_unassigned n) || (draws n && not (eqb (rest_refusal r) 0)))

-- the bits of a number are these command numbers
abbrev pub Numbers : ℕ → (ℕ → Bool) → Type 0
Numbers numbers these = (n : ℕ) → n < 64 → is_among numbers n ≡ these n

-- those that are watched
abbrev pub Watches : ℕ → Rest → Type 0
Watches numbers r = Numbers numbers (is_watched r)

-- what one step of the walk gives
pub record AdvancedIs (strict : Bool) (v : View) (h : Head) (r : Advanced) : Type 0 where
  pub refusal : number_if r.refusal ≡ view_refusal strict v h.number
  pub words : r.words ≡ words_of h.number
  pub after : r.view ≡ view_after v h

-- where a walk ends: the number of the refusal or 0, its place, and what is carried there
pub record Stop : Type 0 where
  pub number : ℕ
  pub place : ℕ
  pub view : View

abbrev pub stopped : walked.Stop → Stop
stopped s = record { number = number_if s.refused; place = s.place; view = s.view }

abbrev pub stop_at : ℕ → ℕ → View → Stop
stop_at number place v = record { number = number; place = place; view = v }

-- what an outcome shows of its state
abbrev pub stop_of : Judgement → Stop
stop_of o = stop_at o.number o.place (view_of o.state)

-- a state with the low four bits of its hazards
abbrev pub low_of : State → State
low_of s = record { hazards = s.hazards % 16; ended = s.ended; registers = s.registers }

-- the judgement of commands by the view alone
abbrev pub end_view : View → ℕ → List ℕ → Stop
end_view v at [] = stop_at 0 at v
end_view v at (b ∷ bs) = stop_at 3 at v

abbrev pub settle_view : ℕ → ℕ → View → Stop → Stop
settle_view zero at v next = next
settle_view (suc refusal) at v next = stop_at (suc refusal) at v

unfoldable pub judge_view : Bool → View → ℕ → List (List ℕ) → List ℕ → Stop
judge_view strict v at [] rest = end_view v at rest
judge_view strict v at (c ∷ cs) rest =
    let h = head_of (word_at c 0) in
    settle_view (view_refusal strict v h.number) at v (judge_view strict (view_after v h) (at + words_of h.number) cs rest)

abbrev pub judged_view : Bool → View → ℕ → List ℕ → Stop
judged_view strict v at bs = judge_view strict v at (commands_of bs) (rest_of bs)

pub record Caused : Type 0 where
  pub stop : Stop
  pub cause : ℕ

abbrev pub caused : walked_whole.Caused → Caused
caused c = record { stop = stopped c.stop; cause = c.cause }

-- with the cause of a refusal where the bytes are a whole list, else with their whole words
abbrev pub caused_by : Bool → List ℕ → Stop → Caused
caused_by whole list q = record { stop = q; cause = cond whole (cause_of list q.number q.place) (length list / 8) }
