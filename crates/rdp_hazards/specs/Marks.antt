-- Document 01, "Four marks", in its own words: what has come since the last sync of some kind. `proofs/MarkLaws` of rdp_check shows that the hazards are this.
use Rattle.std.specs.Prelude.{ℕ, Bool, not, ◌&&◌, ◌||◌, List, [], ◌∷◌, ◌++◌, ◌≡◌, T}
use Rattle.rdp_words.specs.Kinds.{among, between, has_bit, is_draw, kind_of}
use Rattle.rdp_words.specs.Lengths.{first_number}
use Rattle.rdp_hazards.specs.Hazards.{Hazards}
use Rattle.rdp_hazards.specs.Syncs.{load_sync, tile_sync, pipe_sync, sync_number}

-- a number is a draw's
abbrev pub draws : ℕ → Bool
draws n = is_draw (kind_of n)

-- a textured draw: a triangle with bit 57, which is bit 1 of its number, or a texture rectangle
abbrev pub textured : ℕ → Bool
textured n = (between 0x08 0x0F n && has_bit 2 n) || among n (0x24 ∷ 0x25 ∷ [])

abbrev pub loads : ℕ → Bool
loads n = among n (0x30 ∷ 0x33 ∷ 0x34 ∷ [])

-- the commands that read a tile descriptor
abbrev pub reads_tile : ℕ → Bool
reads_tile n = textured n || loads n

-- the syncs that clear a mark: those that its definition names, and Sync Full
abbrev pub sync_full_number : ℕ
sync_full_number = 0x29

abbrev pub pipe_or_full : ℕ → Bool
pipe_or_full n = among n (sync_number pipe_sync ∷ sync_full_number ∷ [])

abbrev pub tile_pipe_or_full : ℕ → Bool
tile_pipe_or_full n = among n (sync_number tile_sync ∷ sync_number pipe_sync ∷ sync_full_number ∷ [])

abbrev pub any_sync : ℕ → Bool
any_sync n = among n (sync_number load_sync ∷ sync_number tile_sync ∷ sync_number pipe_sync ∷ sync_full_number ∷ [])

-- a mark: its bit in the hazards as a number, the numbers of the commands that set it, and of those that clear it
pub record Mark : Type 0 where
  pub bit : ℕ
  pub sets : ℕ → Bool
  pub clears : ℕ → Bool

-- P: a draw since the last Sync Pipe
abbrev pub mark_p : Mark
mark_p = record { bit = 1; sets = draws; clears = pipe_or_full }

-- T: a textured draw or a load since the last Sync Tile or Pipe (#104)
abbrev pub mark_t : Mark
mark_t = record { bit = 2; sets = reads_tile; clears = tile_pipe_or_full }

-- D: a draw since the last sync of any kind
abbrev pub mark_d : Mark
mark_d = record { bit = 4; sets = draws; clears = any_sync }

-- G: a load since the last sync of any kind
abbrev pub mark_g : Mark
mark_g = record { bit = 8; sets = loads; clears = any_sync }

-- none of some commands has one of these numbers
abbrev pub NoneOf : (ℕ → Bool) → List (List ℕ) → Type 0
NoneOf these [] = Unit {0}
NoneOf these (c ∷ cs) = T (not (these (first_number c))) × NoneOf these cs

-- a mark stands after some commands: one that sets it has come, and none after it clears it
pub record Stands (mark : Mark) (cs : List (List ℕ)) : Type 0 where
  pub before : List (List ℕ)
  pub command : List ℕ
  pub after : List (List ℕ)
  pub split : cs ≡ before ++ command ∷ after
  pub comes : T (mark.sets (first_number command))
  pub stays : NoneOf mark.clears after

abbrev pub Exactly : Bool → Type 0 → Type 0
Exactly b P = (T b → P) × (P → T b)

-- the hazards after some commands from the start
pub record MarksAre (cs : List (List ℕ)) (h : Hazards) : Type 0 where
  pub pipe : Exactly h.pipe (Stands mark_p cs)
  pub tile : Exactly h.tile (Stands mark_t cs)
  pub drawn : Exactly h.drawn (Stands mark_d cs)
  pub loaded : Exactly h.loaded (Stands mark_g cs)
