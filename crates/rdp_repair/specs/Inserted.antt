-- Document 01, "Repair": what it is to make a list from a given one by inserting syncs.
use Rattle.std.specs.Prelude.{ℕ, ◌+◌, List, [], ◌∷◌, ◌≡◌}
use Rattle.rdp_check.specs.Commands.{commands_of, rest_of, joined}
use Rattle.rdp_hazards.specs.Syncs.{Sync, sync_wait, sync_word}

-- the second list of commands is the first with syncs, any number or none, inserted before, between and after its commands. The number is their cycles
pub data Inserted : List (List ℕ) → List (List ℕ) → ℕ → Type 0 where
  end : Inserted [] [] 0
  keep : {c : List ℕ} {cs ds : List (List ℕ)} {k : ℕ} → Inserted cs ds k → Inserted (c ∷ cs) (c ∷ ds) k
  insert : (s : Sync) {cs ds : List (List ℕ)} {k : ℕ} → Inserted cs ds k → Inserted cs (sync_word s ∷ ds) (sync_wait s + k)

-- list s is whole commands, and list t is s with syncs of k cycles inserted, none inside a command
unfoldable pub MadeByInserting : List ℕ → List ℕ → ℕ → Type 0
MadeByInserting s t k = (ds : List (List ℕ)) × Inserted (commands_of s) ds k × (joined ds ≡ t) × (rest_of s ≡ [])
