-- How the repair finds the least plan, from the back of the list. No public contract cites this.
use Rattle.std.specs.Prelude.{ℕ, zero, suc, ◌+◌, cond, List, [], ◌∷◌, map, eqb, leb}
use Rattle.rdp_words.specs.Lengths.{first_number}
use Rattle.rdp_hazards.specs.Hazards.{next_of, required_of}
use Rattle.rdp_check.specs.Commands.{commands_of, joined}
use Rattle.rdp_hazards.specs.Syncs.{sync_number}
use Rattle.rdp_repair.specs.Plan.{sync_at, wait_of, applied}

-- the hazards m after an option
unfoldable pub cleared_by : ℕ → ℕ → ℕ
cleared_by zero m = m
cleared_by (suc a) m = next_of m (sync_number (sync_at a))

-- an option before a command: the cycles from there to the end of the list, and the hazards after the command
pub record Choice : Type 0 where
  pub total : ℕ
  pub option : ℕ
  pub next : ℕ

-- option a before command number n at hazards m, where the commands after n cost f of the hazards that n leaves
unfoldable pub total_with : ℕ → (ℕ → ℕ) → ℕ → ℕ → ℕ
total_with n f m a = f (next_of (cleared_by a m) n) + wait_of a

unfoldable pub choice_of : ℕ → (ℕ → ℕ) → ℕ → ℕ → Choice
choice_of n f m a = record { total = total_with n f m a; option = a; next = next_of (cleared_by a m) n }

-- option a, where n then requires no sync and the total is no more than the other's; else the other
unfoldable pub prefer : ℕ → (ℕ → ℕ) → ℕ → ℕ → Choice → Choice
prefer n f m a other =
    cond (eqb (required_of (cleared_by a m) n) 0) (cond (leb (total_with n f m a) other.total) (choice_of n f m a) other) other

-- the first of nothing, Load, Tile and Pipe that costs least; a Pipe always serves
unfoldable pub chosen : ℕ → (ℕ → ℕ) → ℕ → Choice
chosen n f m = prefer n f m 0 (prefer n f m 1 (prefer n f m 2 (choice_of n f m 3)))

-- the least cycles from hazards m to the end of a list of command numbers
unfoldable pub best : List ℕ → ℕ → ℕ
best [] m = 0
best (n ∷ ns) m = (chosen n (λ k. best ns k) m).total

-- the least plan from hazards m, an option for each command
unfoldable pub plan : List ℕ → ℕ → List ℕ
plan [] m = []
plan (n ∷ ns) m = (chosen n (best ns) m).option ∷ plan ns (chosen n (best ns) m).next

-- the numbers of commands; the commands with the least plan from the start, where no hazard stands; and the bytes and the cycles of a list with it
abbrev pub command_numbers : List (List ℕ) → List ℕ
command_numbers cs = map first_number cs

unfoldable pub planned : List (List ℕ) → List (List ℕ)
planned cs = applied (plan (command_numbers cs) 0) cs

unfoldable pub repaired_bytes : List ℕ → List ℕ
repaired_bytes list = joined (planned (commands_of list))

abbrev pub least_cycles : List ℕ → ℕ
least_cycles list = best (command_numbers (commands_of list)) 0
