-- Document 01, "Repair" and refusals 1 to 6, 19, 13, 14: what a least repair is, what the repair answers and what it writes.
use Rattle.std.specs.Prelude.{ℕ, ◌*◌, ◌/◌, ◌<◌, ◌≤◌, cond, ◌||◌, List, [], ◌∷◌, ◌++◌, Result, Ok, Err, ◌≡◌, eqb, ltb, length, take, replicate}
use Rattle.rdp_words.specs.Words.{overwrite}
use Rattle.rdp_words.specs.declared.grounds.Refusal.{Refusal}
use Rattle.rdp_words.specs.Grounds.{number_of, Answer}
use Rattle.rdp_command.specs.Decode.{answer}
use Rattle.rdp_check.specs.Order.{Ground, ground, first_of, IsFirst}
use Rattle.rdp_check.specs.Commands.{commands_of, joined}
use Rattle.rdp_check.specs.Check.{check_refusals, repair_refusals, outcome_of}
use Rattle.rdp_check.specs.Refusals.{Holds, Free, grounds_of}
use Rattle.rdp_repair.specs.Inserted.{MadeByInserting}
use Rattle.rdp_repair.specs.Plan.{applied, cycles_of, TiesFirst}
use Rattle.rdp_repair.specs.declared.Repaired as declared

-- ---- the least repair of a list

-- plan p, an option for each command of s, makes list t
unfoldable pub Makes : List ℕ → List ℕ → List ℕ → Type 0
Makes s p t = (length p ≡ length (commands_of s)) × (joined (applied p (commands_of s)) ≡ t)

-- list t is made from list s by inserting, and the check accepts it (all of refusals 1 to 9 and 19).
-- Least: any list made by inserting that has none of refusals 3 to 9 and 19 has at least as many cycles; such a list may be longer than the check allows.
-- Planned: one with as many cycles has at most one sync before each command and none at the end. First: of the plans of such lists, that of t is the
-- first in the order of ties. There is at most one least repair (`least-unique`)
pub record LeastRepair (s t : List ℕ) (cycles : ℕ) : Type 0 where
  pub inserted : MadeByInserting s t cycles
  pub passes : (outcome_of t).number ≡ 0
  pub least : (u : List ℕ) (k : ℕ) → MadeByInserting s u k → Free check_refusals u → cycles ≤ k
  pub planned : (u : List ℕ) → MadeByInserting s u cycles → Free check_refusals u → (q : List ℕ) × Makes s q u × (cycles_of q ≡ cycles)
  pub first :
      (p : List ℕ) × Makes s p t × (cycles_of p ≡ cycles) ×
      ((q u : List ℕ) → Makes s q u → Free check_refusals u → cycles_of q ≡ cycles → TiesFirst p q)

-- a list that none of 1 to 6 and 19 holds for
abbrev pub Repairable : List ℕ → Type 0
Repairable list = (n p : ℕ) → Holds 2048 repair_refusals list n p → ⊥

-- ---- what the repair answers, where the least repair has so many bytes and cycles

-- a refusal of the repair, and its place, by the lengths of the work buffer and the output
pub data RepairHolds (list : List ℕ) (bytes work out : ℕ) : ℕ → ℕ → Type 0 where
  -- 1 to 6 and 19: of the list, which may have 2,048 words; 7 to 9 are passed over
  of_list : (n p : ℕ) → Holds 2048 repair_refusals list n p → RepairHolds list bytes work out n p
  -- 13: the work buffer is below 16 bytes a command
  little_work : work < 16 * length (commands_of list) → RepairHolds list bytes work out 13 (length (commands_of list))
  -- 14: the output is too short for all that would be written
  little_out : out < bytes → RepairHolds list bytes work out 14 (bytes / 8)

-- their order: those of the list, "then tests 13, 14"
abbrev pub buffer_grounds : List ℕ → ℕ → ℕ → ℕ → List (Ground Answer)
buffer_grounds list bytes work out =
    ground (answer 13 (length (commands_of list))) (ltb work (16 * length (commands_of list)))
    ∷ ground (answer 14 (bytes / 8)) (ltb out bytes)
    ∷ []

abbrev pub repair_grounds : List ℕ → ℕ → ℕ → ℕ → List (Ground Answer)
repair_grounds list bytes work out = grounds_of 2048 repair_refusals list ++ buffer_grounds list bytes work out

-- an answer in the papers' numbers: that of the first refusal, 0 where the list is repaired; its place, or the words written; and the cycles, 0 at a refusal
pub record Repaired : Type 0 where
  pub number : ℕ
  pub place : ℕ
  pub cycles : ℕ

abbrev pub repair_answer : ℕ → ℕ → ℕ → Repaired
repair_answer number place cycles = record { number = number; place = place; cycles = cycles }

-- what a repair answers, in these numbers
abbrev pub told : Result declared.Repaired Refusal → Repaired
told (Ok repaired) = repair_answer 0 repaired.words repaired.cycles
told (Err refusal) = repair_answer (number_of refusal.ground) refusal.place 0

-- the answer: the first refusal in that order, with 0 cycles; where none holds, 0, the words of the least repair and its cycles
unfoldable pub repair_of : List ℕ → ℕ → ℕ → ℕ → ℕ → Repaired
repair_of list bytes cycles work out =
    let a = first_of (repair_grounds list bytes work out) (answer 0 (bytes / 8)) in
    repair_answer a.number a.place (cond (eqb a.number 0) cycles 0)

-- an answer that is 0 and the words of the least repair exactly where no refusal holds, and is else the first that holds, at its place
abbrev pub FirstRepairRefusal : List ℕ → ℕ → ℕ → ℕ → Repaired → Type 0
FirstRepairRefusal list bytes work out r =
    IsFirst (RepairHolds list bytes work out) (repair_grounds list bytes work out) (bytes / 8) r.number r.place

-- ---- what it writes

-- the output: the least repair at 0, and what it held beyond it; else untouched
unfoldable pub out_after : Repaired → List ℕ → List ℕ → List ℕ
out_after r least out = cond (eqb r.number 0) (overwrite least out) out

-- the work buffer: at 0 and 14 the first 16 bytes a command are zero, the rest as received; else untouched
unfoldable pub work_after : Repaired → List ℕ → List ℕ → List ℕ
work_after r list work =
    cond (eqb r.number 0 || eqb r.number 14) (overwrite (replicate (16 * length (commands_of list)) 0) work) work

-- what a repair ensures of its answer, of the work buffer and of the output, by what it is to be the least list: that of 01, or that of #109 (`Afresh`).
-- Where none of 1 to 6 and 19 holds, `least` is the least list for the given one, of so many cycles; where one of them holds, nothing depends on these two
pub record RepairsBy (Least : List ℕ → List ℕ → ℕ → Type 0) (list work out : List ℕ) (r : Repaired) (work' out' : List ℕ) : Type 0 where
  pub least : List ℕ
  pub cycles : ℕ
  pub is-least : Repairable list → Least list least cycles
  pub answer : r ≡ repair_of list (length least) cycles (length work) (length out)
  pub output : out' ≡ out_after r least out
  pub cleared : work' ≡ work_after r list work
  -- demand 3: where the work buffer has 16 bytes a command and the output the words of the least list, the answer is 0
  pub succeeds : Repairable list → 16 * length (commands_of list) ≤ length work → length least ≤ length out → r.number ≡ 0
  -- and at 0 what is written is the least list, and its cycles are answered
  pub written : r.number ≡ 0 → Least list (take (8 * r.place) out') r.cycles

-- the first repair
abbrev pub RepairIs : List ℕ → List ℕ → List ℕ → Repaired → List ℕ → List ℕ → Type 0
RepairIs = RepairsBy LeastRepair
