-- Document 01, "Repair": a plan says what stands before each command, an option for each. An option is 0 for nothing, and else a sync in the order of
-- ties: 1 Load, 2 Tile, 3 Pipe (as is any larger number).
use Rattle.std.specs.Prelude.{ℕ, zero, suc, ◌+◌, ◌<◌, List, [], ◌∷◌}
use Rattle.rdp_hazards.specs.Syncs.{Sync, load_sync, tile_sync, pipe_sync, sync_wait, sync_word}

-- the sync of option a + 1
unfoldable pub sync_at : ℕ → Sync
sync_at zero = load_sync
sync_at (suc zero) = tile_sync
sync_at (suc (suc a)) = pipe_sync

-- a command, and those after it, with an option's sync before it
unfoldable pub with_option : ℕ → List ℕ → List (List ℕ) → List (List ℕ)
with_option zero c cs = c ∷ cs
with_option (suc a) c cs = sync_word (sync_at a) ∷ c ∷ cs

-- the commands with a plan's syncs before them
unfoldable pub applied : List ℕ → List (List ℕ) → List (List ℕ)
applied p [] = []
applied [] (c ∷ cs) = c ∷ cs
applied (a ∷ p) (c ∷ cs) = with_option a c (applied p cs)

-- the cycles of an option, and of a plan
unfoldable pub wait_of : ℕ → ℕ
wait_of zero = 0
wait_of (suc a) = sync_wait (sync_at a)

unfoldable pub cycles_of : List ℕ → ℕ
cycles_of [] = 0
cycles_of (a ∷ p) = wait_of a + cycles_of p

-- ties: plan p is q, or has the smaller option at the first command where they differ
pub data TiesFirst : List ℕ → List ℕ → Type 0 where
  same : TiesFirst [] []
  next : {a : ℕ} {p q : List ℕ} → TiesFirst p q → TiesFirst (a ∷ p) (a ∷ q)
  less : {a b : ℕ} {p q : List ℕ} → a < b → TiesFirst (a ∷ p) (b ∷ q)
