-- Document 02, #108: the walk of a display list, one command at a time, and its refusals. "A list runs commands and a command may run a list": the calls that
-- have not returned are the offsets to return to, the last one first.
use Rattle.std.specs.Prelude.{ℕ, zero, suc, ◌+◌, ◌/◌, ◌%◌, Bool, true, false, cond, not, ◌&&◌, List, [], ◌∷◌, eqb, leb, length}
use Rattle.rdp_words.specs.Words.{word_at}
use Rattle.f3dex2.specs.Commands.{first_byte, low_half, Role, straight, rectangle, modes, list, end, unnamed, role_of, command_word, second_word, modes_word, setting_after, calls, invalid}
use Rattle.f3dex2.specs.declared.Due.{Due}
use Rattle.f3dex2.specs.declared.Due.TheVariants.{Command, FirstHalf, SecondHalf}
use Rattle.f3dex2.specs.declared.Setting.{Setting}

-- what a walk comes to: the number of the refusal or 0, its offset, the commands read, each by its word, and the words to write
pub record Walked : Type 0 where
  pub number : ℕ
  pub place : ℕ
  pub commands : List ℕ
  pub words : List ℕ

-- a refusal, "a refused one not" counted; with number 0 the end of the outermost list
abbrev pub stopped : ℕ → ℕ → Walked
stopped number place = record { number = number; place = place; commands = []; words = [] }

-- one command is read first, "half-words counted"
abbrev pub counted : ℕ → Walked → Walked
counted w r = record { number = r.number; place = r.place; commands = w ∷ r.commands; words = r.words }

-- one word is written first
abbrev pub written : ℕ → Walked → Walked
written w r = record { number = r.number; place = r.place; commands = r.commands; words = w ∷ r.words }

-- ---- the refusals of a command

-- not 20, "offset no multiple of 8 or command beyond the lent memory"
abbrev pub readable : List ℕ → ℕ → Bool
readable memory at = eqb (at % 8) 0 && leb (at + 8) (length memory)

-- 21, "the 4,097th command": no more may be read
abbrev pub spent : ℕ → Bool
spent zero = true
spent (suc left) = false

-- not 22, "a number not named above"
abbrev pub named : Role → Bool
named straight = true
named rectangle = true
named modes = true
named list = true
named end = true
named unnamed = false

-- nor "0xE1 and 0xF1 missing or out of place"
abbrev pub in_place : Due → ℕ → Bool
in_place Command n = named (role_of n)
in_place FirstHalf n = eqb n 0xE1
in_place (SecondHalf first) n = eqb n 0xF1

-- 23: a half-word has nothing that it could refuse
abbrev pub is_invalid : Due → ℕ → ℕ → ℕ → Bool
is_invalid Command depth n w = invalid (role_of n) depth n w
is_invalid FirstHalf depth n w = false
is_invalid (SecondHalf first) depth n w = false

-- "22 ..; 23 ..": those by the command's word
abbrev pub word_refusal : Due → ℕ → ℕ → ℕ → ℕ
word_refusal due depth n w =
    cond (not (in_place due n)) 22
    (cond (is_invalid due depth n w) 23
    0)

-- "first 20, ..; 21, the 4,097th command; 22, ..; 23, ..": the first that holds of the command at an offset, or 0. `left` commands may still be read
abbrev pub offset_refusal : List ℕ → ℕ → ℕ → ℕ → Setting → ℕ
offset_refusal memory left depth at s =
    let w = word_at memory (at / 8) in
    cond (not (readable memory at)) 20
    (cond (spent left) 21
    (word_refusal s.due depth (first_byte w) w))

-- ---- what a command does that is not refused

-- 0xDF "returns, or ends the outermost": on at the offset to return to, if there is one
abbrev pub resumed : (List ℕ → ℕ → Setting → Walked) → List ℕ → Setting → Walked
resumed go [] s = stopped 0 0
resumed go (at ∷ returns) s = go returns at s

-- with the setting after it; `go` is the walk from an offset on
abbrev pub runs_role : (List ℕ → ℕ → Setting → Walked) → List ℕ → ℕ → Setting → ℕ → Role → Walked
runs_role go returns at s w straight = written (command_word w) (go returns (at + 8) s)
runs_role go returns at s w rectangle = written (command_word w) (go returns (at + 8) s)
runs_role go returns at s w modes = written (modes_word s) (go returns (at + 8) s)
-- "0xDE with 00 calls the list at an offset, with 01 goes there for good"
runs_role go returns at s w list = cond (calls w) (go ((at + 8) ∷ returns) (low_half w) s) (go returns (low_half w) s)
runs_role go returns at s w end = resumed go returns s
-- refused by 22
runs_role go returns at s w unnamed = stopped 22 at

-- by what is due: a rectangle's second word is written where its second half-word is read
abbrev pub runs : (List ℕ → ℕ → Setting → Walked) → List ℕ → ℕ → Setting → ℕ → Due → Walked
runs go returns at s w Command = runs_role go returns at s w (role_of (first_byte w))
runs go returns at s w FirstHalf = go returns (at + 8) s
runs go returns at s w (SecondHalf first) = written (second_word first w) (go returns (at + 8) s)

-- ---- the walk

-- a command that is refused with a number, "place being the offset", or that is read
abbrev pub judged : ℕ → ℕ → ℕ → Walked → Walked
judged zero at w r = counted w r
judged (suc g) at w r = stopped (suc g) at

-- from an offset, with so many commands that may still be read
unfoldable pub walk : List ℕ → ℕ → List ℕ → ℕ → Setting → Walked
walk memory zero returns at s = stopped (offset_refusal memory 0 (length returns) at s) at
walk memory (suc left) returns at s =
    let w = word_at memory (at / 8) in
    judged (offset_refusal memory (suc left) (length returns) at s) at w (runs (walk memory left) returns at (setting_after s w) w s.due)
