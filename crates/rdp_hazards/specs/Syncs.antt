-- Document 01, "Four marks" and "Repair": the syncs that a repair inserts. Their waits stand here alone.
use Rattle.std.specs.Prelude.{ℕ, ◌+◌, cond, List, [], ◌∷◌, eqb}
use Rattle.rdp_words.specs.Words.{bare_word}
use Rattle.rdp_words.specs.Lengths.{first_number}
use Rattle.rdp_hazards.specs.declared.Sync as declared
use Rattle.rdp_hazards.specs.declared.Sync.TheVariants.{Load, Tile, Pipe}

pub data Sync : Type 0 where
  load_sync : Sync
  tile_sync : Sync
  pipe_sync : Sync

-- the sync of the code
abbrev pub sync_in : declared.Sync → Sync
sync_in Load = load_sync
sync_in Tile = tile_sync
sync_in Pipe = pipe_sync

abbrev pub sync_number : Sync → ℕ
sync_number load_sync = 0x26
sync_number tile_sync = 0x28
sync_number pipe_sync = 0x27

-- the cycles that it waits
abbrev pub sync_wait : Sync → ℕ
sync_wait load_sync = 25
sync_wait tile_sync = 33
sync_wait pipe_sync = 50

-- the bytes of its word: its number in bits 61:56, all other bits 0
abbrev pub sync_word : Sync → List ℕ
sync_word s = bare_word (sync_number s)

-- #105, "sync waits (25, 33, 50; Sync Full nothing)": the cycles that a command waits, by its number, and those that commands wait
unfoldable pub command_wait : ℕ → ℕ
command_wait n =
    cond (eqb n (sync_number load_sync)) (sync_wait load_sync)
    (cond (eqb n (sync_number tile_sync)) (sync_wait tile_sync)
    (cond (eqb n (sync_number pipe_sync)) (sync_wait pipe_sync) 0))

unfoldable pub waiting : List (List ℕ) → ℕ
waiting [] = 0
waiting (c ∷ cs) = command_wait (first_number c) + waiting cs
