-- What the repair carries, and what its work buffer holds while it runs. No public contract cites this.
use Rattle.std.specs.Prelude.{ℕ, zero, suc, ◌+◌, ◌*◌, ◌/◌, ◌%◌, min, ◌<◌, ◌≤◌, Bool, cond, ◌&&◌, List, [], ◌∷◌, ◌++◌, map, ◌≡◌, eqb, length, get_or, take, drop}
use Rattle.rdp_words.specs.Words.{overwrite}
use Rattle.rdp_words.specs.Kinds.{words_of}
use Rattle.rdp_words.specs.Lengths.{first_number}
use Rattle.rdp_hazards.specs.Hazards.{next_of, required_of}
use Rattle.rdp_check.specs.Commands.{commands_of, joined}
use Rattle.rdp_hazards.specs.Syncs.{sync_word}
use Rattle.rdp_repair.specs.Plan.{sync_at, wait_of, applied}
use Rattle.rdp_repair.specs.Best.{Choice, chosen, best, plan, repaired_bytes, least_cycles}
use Rattle.rdp_check.specs.Check.{repair_refusals, outcome_within}
use Rattle.rdp_repair.specs.Repair.{repair_of, out_after, work_after}
use Rattle.rdp_repair.specs.Afresh.{is_forgotten, without}
use Rattle.rdp_repair.specs.Repair.{Repaired}
use Rattle.rdp_repair.specs.declared.repairing.Noted.{Noted}
use Rattle.rdp_repair.specs.declared.repairing.Planned.{Planned}

-- f 0, f 1, .., f (n - 1)
unfoldable pub tabulate : ℕ → (ℕ → ℕ) → List ℕ
tabulate zero f = []
tabulate (suc n) f = f 0 ∷ tabulate n (λ k. f (suc k))

-- ---- choices as numbers

-- a choice without its total, in a byte: 16 times the option, and the next hazards
unfoldable pub packed_choice : Choice → ℕ
packed_choice ch = 16 * ch.option + ch.next

-- a choice's rank: 64 times its total, and that byte, so that the smaller is the better choice, by the total and then by the option.
-- The rank of nothing before command number n at hazards m, where the rest costs f; more than any other where a sync is missing
unfoldable pub bare_rank : ℕ → (ℕ → ℕ) → ℕ → ℕ
bare_rank n f m = 64 * f (next_of m n) + next_of m n + cond (eqb (required_of m n) 0) 0 0x1000000

-- what an option adds to a rank: 64 times its cycles, and 16 times the option
abbrev pub option_rank : ℕ → ℕ
option_rank a = 64 * wait_of a + 16 * a

-- the least rank of Load, Tile and Pipe at hazards of which P and T are m, by the ranks of nothing
unfoldable pub synced_rank : (ℕ → ℕ) → ℕ → ℕ
synced_rank g m = min (g m + option_rank 1) (min (g (m % 2) + option_rank 2) (g 0 + option_rank 3))

-- the totals and the choices before command number n at each of the sixteen hazard states, where the rest costs f
unfoldable pub totals_of : ℕ → (ℕ → ℕ) → List ℕ
totals_of n f = tabulate 16 (λ m. (chosen n f m).total)

unfoldable pub choices_of : ℕ → (ℕ → ℕ) → List ℕ
choices_of n f = tabulate 16 (λ m. packed_choice (chosen n f m))

-- each element is at most b
abbrev pub Bounded : ℕ → List ℕ → Type 0
Bounded b xs = (k : ℕ) → get_or xs k 0 ≤ b

-- ---- what a repair leaves out

-- the first repair leaves out nothing, the second (`afresh`) the Load, Tile and Pipe syncs; so it repairs the list without them
abbrev pub drops : Bool → ℕ → Bool
drops afresh n = afresh && is_forgotten n

abbrev pub basis_of : Bool → List ℕ → List ℕ
basis_of afresh list = cond afresh (without list) list

-- the number noted for a command. One that is left out counts as a no operation, before which a least plan has nothing
unfoldable pub noted_number : Bool → ℕ → ℕ
noted_number afresh n = cond (drops afresh n) 0 n

abbrev pub noted_of : Bool → List (List ℕ) → List ℕ
noted_of afresh cs = map (λ c. noted_number afresh (first_number c)) cs

-- the words and the bytes of it that are kept
unfoldable pub kept_words : Bool → ℕ → ℕ
kept_words afresh n = cond (drops afresh n) 0 (words_of n)

abbrev pub kept_words_in : Bool → List (List ℕ) → ℕ
kept_words_in afresh [] = 0
kept_words_in afresh (c ∷ cs) = kept_words afresh (first_number c) + kept_words_in afresh cs

unfoldable pub kept_of : Bool → List ℕ → List ℕ
kept_of afresh c = cond (drops afresh (first_number c)) [] c

abbrev pub kept_all : Bool → List (List ℕ) → List (List ℕ)
kept_all afresh cs = map (kept_of afresh) cs

-- ---- the work buffer, sixteen bytes for each command

-- the command numbers noted in it, one at the start of each sixteen bytes
unfoldable pub noted_in : List ℕ → ℕ → List ℕ
noted_in work n = tabulate n (λ i. get_or work (16 * i) 0)

-- after the backward pass: for each command the choices at the sixteen hazard states
unfoldable pub work_of : List ℕ → List ℕ
work_of [] = []
work_of (n ∷ ns) = choices_of n (best ns) ++ work_of ns

-- the plan of n commands that it then holds, from hazards m
unfoldable pub options_in : ℕ → List ℕ → ℕ → List ℕ
options_in zero work m = []
options_in (suc n) work m = get_or work m 0 / 16 ∷ options_in n (drop 16 work) (get_or work m 0 % 16)

-- the first n bytes are below b
abbrev pub Below : ℕ → List ℕ → ℕ → Type 0
Below b xs n = (k : ℕ) → k < n → get_or xs k 0 < b

-- ---- the words of a plan

-- the number of words that a plan inserts
unfoldable pub inserts_of : List ℕ → ℕ
inserts_of [] = 0
inserts_of (a ∷ p) = min a 1 + inserts_of p

-- the bytes of an option's sync
unfoldable pub option_bytes : ℕ → List ℕ
option_bytes zero = []
option_bytes (suc a) = sync_word (sync_at a)

-- the bytes that are kept of the commands of a list, with the plan that the work buffer holds
abbrev pub due_bytes : Bool → List ℕ → List ℕ → List ℕ
due_bytes afresh list work =
    let cs : List (List ℕ) = kept_all afresh (commands_of list) in
    joined (applied (options_in (length cs) work 0) cs)

-- a row of the backward pass: the totals and choices before command number n, by the totals after it
pub record RowIs (n : ℕ) (after totals choices : List ℕ) : Type 0 where
  pub totals-are : totals ≡ totals_of n (λ k. get_or after k 0)
  pub choices-are : choices ≡ choices_of n (λ k. get_or after k 0)

-- the numbers of a list's commands are noted, the commands and the words that are kept are counted, and what lies beyond the sixteen bytes a command is
-- as it was
pub record NotedIs (afresh : Bool) (list work : List ℕ) (r : Noted) (work' : List ℕ) : Type 0 where
  pub counted : r.commands ≡ length (commands_of list)
  pub words : r.words ≡ kept_words_in afresh (commands_of list)
  pub numbers : noted_in work' (length (commands_of list)) ≡ noted_of afresh (commands_of list)
  pub beyond : drop (16 * length (commands_of list)) work' ≡ drop (16 * length (commands_of list)) work

-- the backward pass over n commands: the least cycles, and the choices in place of the numbers
pub record BackwardIs (n cycles : ℕ) (work work' : List ℕ) : Type 0 where
  pub least : cycles ≡ best (noted_in work n) 0
  pub choices : work' ≡ overwrite (work_of (noted_in work n)) work

-- the plan of a list: its commands, its cycles, the words that are kept with its syncs, and the choices at the front of the work buffer
pub record PlannedIs (afresh : Bool) (list work : List ℕ) (r : Planned) (work' : List ℕ) : Type 0 where
  pub commands : r.commands ≡ length (commands_of list)
  pub cycles : r.cycles ≡ best (noted_of afresh (commands_of list)) 0
  pub words : r.words ≡ kept_words_in afresh (commands_of list) + inserts_of (plan (noted_of afresh (commands_of list)) 0)
  pub choices : work' ≡ overwrite (work_of (noted_of afresh (commands_of list))) work

-- ---- what either repair ensures, where it repairs list `basis` for the given one

abbrev pub answered_by : List ℕ → List ℕ → List ℕ → List ℕ → Repaired
answered_by basis list work out = repair_of list (length (repaired_bytes basis)) (least_cycles basis) (length work) (length out)

pub record Repairs (basis list work out : List ℕ) (r : Repaired) (work' out' : List ℕ) : Type 0 where
  pub answer : r ≡ answered_by basis list work out
  pub output : out' ≡ out_after r (repaired_bytes basis) out
  pub cleared : work' ≡ work_after r list work
  pub done :
      r.number ≡ 0 →
      ((outcome_within 2048 repair_refusals list).number ≡ 0) × (take (8 * r.place) out' ≡ repaired_bytes basis) × (r.cycles ≡ least_cycles basis)
