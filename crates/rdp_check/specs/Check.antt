-- Document 01, "Grounds": the refusals of a list, command by command, in their order.
use Rattle.std.specs.Prelude.{ℕ, zero, suc, ◌+◌, ◌*◌, ◌/◌, ◌%◌, Bool, false, cond, ◌&&◌, ◌||◌, not, List, [], ◌∷◌, ◌++◌, ltb, eqb, length, Result, Ok, Err}
use Rattle.rdp_words.specs.Kinds.{words_of, is_unassigned}
use Rattle.rdp_words.specs.Lengths.{first_number}
use Rattle.rdp_command.specs.Decode.{decode_of}
use Rattle.rdp_hazards.specs.Hazards.{next_of, required_of}
use Rattle.rdp_check.specs.Order.{Ground, ground, first_of}
use Rattle.rdp_check.specs.Commands.{commands_of, rest_of}
use Rattle.rdp_hazards.specs.Marks.{draws}
use Rattle.rdp_check.specs.Cause.{cause_of}
use Rattle.rdp_check.specs.Registers.{no_registers, after_decoded}
use Rattle.rdp_check.specs.declared.Registers.{Registers}
use Rattle.rdp_words.specs.Grounds.{number_of}
use Rattle.rdp_words.specs.declared.grounds.Refusal.{Refusal}
use Rattle.rdp_check.specs.declared.Accepted.{Accepted}
use Rattle.rdp_check.specs.declared.Refused.{Refused}

-- the state after some commands: the hazards as a number, whether a Sync Full has come, and the registers
pub record State : Type 0 where
  pub hazards : ℕ
  pub ended : Bool
  pub registers : Registers

-- a list starts idle, with no hazard
abbrev pub start : State
start = record { hazards = 0; ended = false; registers = no_registers }

-- after a command, which is the bytes of its words
unfoldable pub after_command : State → List ℕ → State
after_command s c =
    record {
      hazards = next_of s.hazards (first_number c);
      ended = eqb (first_number c) 0x29 || s.ended;
      registers = after_decoded s.registers (decode_of c);
    }

-- modes, colour image and scissor are set in this list
abbrev pub ready : Registers → Bool
ready r = (r.modes.other.set && r.images.color.set) && r.modes.scissor.set

-- FILL mode (cycle type 3) and a colour image of 4 bits (size 0)
abbrev pub four_bit_fill : Registers → Bool
four_bit_fill r = eqb r.modes.other.value.cycle_type 3 && eqb r.images.color.value.size 0

-- the refusals of a command, in the state before it: their numbers in their order, each with whether it holds
abbrev pub Refusals : Type 0
Refusals = State → List ℕ → List (Ground ℕ)

-- 4: a command after Sync Full. 19: an unassigned number, "after 4 and before 5" (#107). 5: a draw with modes, colour image or scissor not set in this list.
-- 6: a draw in FILL mode on a 4-bit image
unfoldable pub own_refusals : Refusals
own_refusals s c =
    let draw = draws (first_number c) in
    ground 4 s.ended
    ∷ ground 19 (is_unassigned (first_number c))
    ∷ ground 5 (draw && not (ready s.registers))
    ∷ ground 6 (draw && four_bit_fill s.registers)
    ∷ []

-- 7, 8, 9: sync missing: Load, Tile, Pipe
unfoldable pub sync_refusals : Refusals
sync_refusals s c =
    let required = required_of s.hazards (first_number c) in
    ground 7 (eqb required 1) ∷ ground 8 (eqb required 2) ∷ ground 9 (eqb required 3) ∷ []

-- "at one command 3, 4, 5, 6, then 7 to 9", with 19 after 4; the repair passes over 7 to 9; and no refusal of a command is left where only 1 to 3 count
abbrev pub check_refusals : Refusals
check_refusals s c = own_refusals s c ++ sync_refusals s c

abbrev pub repair_refusals : Refusals
repair_refusals = own_refusals

abbrev pub no_refusals : Refusals
no_refusals s c = []

-- the first of them that holds, or 0
abbrev pub refusal_at : Refusals → State → List ℕ → ℕ
refusal_at refusals s c = first_of (refusals s c) 0

-- the number of the first refusal, 0 where there is none; its place; and the state there
pub record Judgement : Type 0 where
  pub number : ℕ
  pub place : ℕ
  pub state : State

abbrev pub outcome : ℕ → ℕ → State → Judgement
outcome number place s = record { number = number; place = place; state = s }

-- 0 at the end, or 3 at a command that runs past it
abbrev pub at_end : State → ℕ → List ℕ → Judgement
at_end s at [] = outcome 0 at s
at_end s at (b ∷ bs) = outcome 3 at s

abbrev pub settle : ℕ → ℕ → State → Judgement → Judgement
settle zero at s next = next
settle (suc refusal) at s next = outcome (suc refusal) at s

-- the commands from a place on, in order, with the bytes of one that runs past the end
unfoldable pub judge : Refusals → State → ℕ → List (List ℕ) → List ℕ → Judgement
judge refusals s at [] rest = at_end s at rest
judge refusals s at (c ∷ cs) rest =
    settle (refusal_at refusals s c) at s (judge refusals (after_command s c) (at + words_of (first_number c)) cs rest)

abbrev pub judge_list : Refusals → List ℕ → Judgement
judge_list refusals list = judge refusals start 0 (commands_of list) (rest_of list)

-- 1: more bytes than those of the words allowed, at that number of words; 2: the length is no multiple of 8; then the commands
unfoldable pub outcome_within : ℕ → Refusals → List ℕ → Judgement
outcome_within words refusals list =
    cond (ltb (8 * words) (length list)) (outcome 1 words start)
    (cond (eqb (length list % 8) 0) (judge_list refusals list) (outcome 2 (length list / 8) start))

-- the check: at most 32,768 bytes
abbrev pub outcome_of : List ℕ → Judgement
outcome_of list = outcome_within 4096 check_refusals list

-- the number of the first refusal, 0 where the list is accepted; its place in words; the hazards there; and its cause
pub record Checked : Type 0 where
  pub number : ℕ
  pub place : ℕ
  pub hazards : ℕ
  pub cause : ℕ

-- what the check of a list answers, in the papers' numbers; where the list is accepted the cause is the list's whole words
abbrev pub checked_in : List ℕ → Result Accepted Refused → Checked
checked_in list (Ok a) = record { number = 0; place = a.words; hazards = a.hazards; cause = length list / 8 }
checked_in list (Err r) = record { number = number_of r.ground; place = r.place; hazards = r.hazards; cause = r.cause }

-- a refusal alone
abbrev pub refusal_in : Refused → Refusal
refusal_in r = record { ground = r.ground; place = r.place }

abbrev pub checked : List ℕ → Judgement → Checked
checked list o = record { number = o.number; place = o.place; hazards = o.state.hazards; cause = cause_of list o.number o.place }

-- what the check answers
abbrev pub check_of : List ℕ → Checked
check_of list = checked list (outcome_of list)

-- what the check before a repair answers: 1 over 16,384 bytes, and "Repair passes over 7 to 9"
abbrev pub repair_check_of : List ℕ → Checked
repair_check_of list = checked list (outcome_within 2048 repair_refusals list)
