-- Document 02, #109: "A second repair forgets the Load, Tile and Pipe syncs present and chooses afresh". What its list is, and what it ensures.
use Rattle.std.specs.Prelude.{ℕ, ◌≤◌, Bool, cond, ◌||◌, List, [], ◌∷◌, map, ◌≡◌, eqb, length}
use Rattle.rdp_words.specs.Words.{bare_word}
use Rattle.rdp_words.specs.Lengths.{first_number}
use Rattle.rdp_hazards.specs.Syncs.{load_sync, tile_sync, pipe_sync, sync_number, waiting}
use Rattle.rdp_check.specs.Commands.{commands_of, rest_of, joined}
use Rattle.rdp_check.specs.Check.{check_refusals, outcome_of}
use Rattle.rdp_check.specs.Refusals.{Free}
use Rattle.rdp_repair.specs.Plan.{applied, cycles_of, TiesFirst}
use Rattle.rdp_repair.specs.Repair.{LeastRepair, RepairsBy}
use Rattle.rdp_repair.specs.Repair.{Repaired}

-- ---- the commands that remain

-- the number of a Sync Load, Tile or Pipe
abbrev pub is_forgotten : ℕ → Bool
is_forgotten n = (eqb n (sync_number load_sync) || eqb n (sync_number tile_sync)) || eqb n (sync_number pipe_sync)

-- the commands that are none of these, whatever the other bits of those that are
unfoldable pub others : List (List ℕ) → List (List ℕ)
others [] = []
others (c ∷ cs) = cond (is_forgotten (first_number c)) (others cs) (c ∷ others cs)

-- a list without its Load, Tile and Pipe syncs
unfoldable pub without : List ℕ → List ℕ
without list = joined (others (commands_of list))

-- ---- lists with those other commands

-- a passing list with the other commands of list s: none of 3 to 9 and 19 holds, so its commands are whole. Its syncs may have any other bits, and it may be
-- longer than the check allows
pub record Serves (s u : List ℕ) : Type 0 where
  pub kept : others (commands_of u) ≡ others (commands_of s)
  pub free : Free check_refusals u

-- a command, where it is a sync with all other bits 0
unfoldable pub bare_sync : List ℕ → List ℕ
bare_sync c = cond (is_forgotten (first_number c)) (bare_word (first_number c)) c

-- list u has a plan's syncs, and no others, before the commands of list s that remain; the other bits of its syncs don't count
pub record HasPlan (s u p : List ℕ) : Type 0 where
  pub one_each : length p ≡ length (others (commands_of s))
  pub makes : map bare_sync (commands_of u) ≡ applied p (others (commands_of s))
  pub waits : cycles_of p ≡ waiting (commands_of u)

-- ---- what the second repair writes

-- "It keeps all other commands in order, passes the check, and its total waiting is the least of all passing lists with those other commands."
-- Repair: it is 01's least repair of the commands that remain, and so its syncs have all other bits 0. First: each passing list that waits as little has a plan
-- over these commands, and "ties are decided as in 01". There is at most one such list (`afresh-unique`)
pub record LeastAfresh (s t : List ℕ) (cycles : ℕ) : Type 0 where
  pub kept : others (commands_of t) ≡ others (commands_of s)
  pub whole : rest_of t ≡ []
  pub passes : (outcome_of t).number ≡ 0
  -- "The answer's cycles are the total."
  pub waits : cycles ≡ waiting (commands_of t)
  pub least : (u : List ℕ) → Serves s u → cycles ≤ waiting (commands_of u)
  pub repair : LeastRepair (without s) t cycles
  pub first :
      (p : List ℕ) × HasPlan s t p ×
      ((u : List ℕ) → Serves s u → waiting (commands_of u) ≡ cycles → (q : List ℕ) × HasPlan s u q × TiesFirst p q)

-- "The first repair's refusals apply in its order, judged on the list as given; the work buffer goes by its commands too": what the first repair ensures,
-- with this list in place of the least repair
abbrev pub AfreshIs : List ℕ → List ℕ → List ℕ → Repaired → List ℕ → List ℕ → Type 0
AfreshIs = RepairsBy LeastAfresh
