-- Document 01, "Four marks": the hazards that a list leaves, what a command requires of them and does to them.
use Rattle.std.specs.Prelude.{ℕ, ◌+◌, ◌*◌, ◌%◌, ◌<◌, Bool, true, false, cond, ◌||◌, not, List, ◌≡◌, eqb, get_or, Option, Some, None}
use Rattle.std.specs.Int.Bits.{bit_and, bit_or}
use Rattle.rdp_words.specs.Kinds.{Kind, no_operation, unassigned, triangle, texture_rectangle, fill_rectangle, sync_load, sync_tile, sync_pipe, sync_full, load, set_tile, attribute, free, kind_of, has_bit}
use Rattle.rdp_hazards.specs.declared.Sync.{Sync}
use Rattle.rdp_hazards.specs.declared.Sync.TheVariants.{Load, Tile, Pipe}
use Rattle.rdp_hazards.specs.declared.Transition as declared

-- the marks P, T, D and G
pub record Hazards : Type 0 where
  -- P: a draw since the last Sync Pipe
  pub pipe : Bool
  -- T: a textured draw or a load since the last Sync Tile or Pipe (#104)
  pub tile : Bool
  -- D: a draw since the last sync of any kind
  pub drawn : Bool
  -- G: a load since the last sync of any kind
  pub loaded : Bool

-- the hazards of a number: P 1, T 2, D 4, G 8, summed
abbrev pub hazards_of : ℕ → Hazards
hazards_of m = record { pipe = has_bit 1 m; tile = has_bit 2 m; drawn = has_bit 4 m; loaded = has_bit 8 m }

-- and the number of hazards
abbrev pub code_of : Hazards → ℕ
code_of h = cond h.pipe 1 0 + cond h.tile 2 0 + cond h.drawn 4 0 + cond h.loaded 8 0

abbrev pub after_draw : Bool → Hazards → Hazards
after_draw textured h = record { pipe = true; tile = textured || h.tile; drawn = true; loaded = h.loaded }

-- the hazards after a command, by its kind and number; bit 57 of a triangle's first word, bit 1 of its number, says that it is textured
abbrev pub hazards_after : Kind → ℕ → Hazards → Hazards
hazards_after no_operation n h = h
hazards_after unassigned n h = h
hazards_after triangle n h = after_draw (has_bit 2 n) h
hazards_after texture_rectangle n h = after_draw true h
hazards_after fill_rectangle n h = after_draw false h
hazards_after sync_load n h = record { pipe = h.pipe; tile = h.tile; drawn = false; loaded = false }
hazards_after sync_tile n h = record { pipe = h.pipe; tile = false; drawn = false; loaded = false }
hazards_after sync_pipe n h = record { pipe = false; tile = false; drawn = false; loaded = false }
hazards_after sync_full n h = record { pipe = false; tile = false; drawn = false; loaded = false }
hazards_after load n h = record { pipe = h.pipe; tile = true; drawn = h.drawn; loaded = true }
hazards_after set_tile n h = h
hazards_after attribute n h = h
hazards_after free n h = h

-- the sync that a command needs: 0 none, 1 any of the three (Load), 2 Tile or Pipe (Tile), 3 Pipe
abbrev pub required_by : Kind → Hazards → ℕ
required_by no_operation h = 0
required_by unassigned h = 0
required_by triangle h = cond h.loaded 1 0
required_by texture_rectangle h = cond h.loaded 1 0
required_by fill_rectangle h = cond h.loaded 1 0
required_by sync_load h = 0
required_by sync_tile h = 0
required_by sync_pipe h = 0
required_by sync_full h = 0
required_by load h = cond h.drawn 1 0
required_by set_tile h = cond h.tile 2 0
required_by attribute h = cond h.pipe 3 0
required_by free h = 0

-- the hazards after a command and the sync that it requires, by its number and the hazards as a number
unfoldable pub next_of : ℕ → ℕ → ℕ
next_of m n = code_of (hazards_after (kind_of n) n (hazards_of m))

unfoldable pub required_of : ℕ → ℕ → ℕ
required_of m n = required_by (kind_of n) (hazards_of m)

-- the two with whether a sync is missing
pub record Transition : Type 0 where
  pub next : ℕ
  pub missing : Bool
  pub required : ℕ

abbrev pub transition_of : ℕ → ℕ → Transition
transition_of m n = record { next = next_of m n; missing = not (eqb (required_of m n) 0); required = required_of m n }

-- the number of a sync that may be required
abbrev pub code_in : Option Sync → ℕ
code_in None = 0
code_in (Some Load) = 1
code_in (Some Tile) = 2
code_in (Some Pipe) = 3

-- a step's answer in these numbers
abbrev pub stepped : declared.Transition → Transition
stepped t = record { next = t.next; missing = not (eqb (code_in t.required) 0); required = code_in t.required }

-- an entry of the table: the next hazards, 16 where a sync is missing, 32 times the sync required
unfoldable pub entry_of : ℕ → ℕ → ℕ
entry_of m n = next_of m n + cond (eqb (required_of m n) 0) 0 16 + 32 * required_of m n

-- a table of sixteen hazard states by sixty-four command numbers, those of one number together, agrees with the rule
abbrev pub Agrees : List ℕ → Type 0
Agrees table = (m n : ℕ) → m < 16 → n < 64 → get_or table (n * 16 + m) 0 ≡ entry_of m n

-- the entry of any table: of the hazards the low four bits count, of the command number the low six
unfoldable pub entry_at : List ℕ → ℕ → ℕ → ℕ
entry_at table m n = get_or table (n % 64 * 16 + m % 16) 0

-- the hazards after a command by any table: of those before it the ones that its entry at all hazards keeps, with those that its entry at none is. By a
-- table that agrees these are the hazards after the command where the hazards are below sixteen (`next-read`); of others higher bits may stay
unfoldable pub next_by : List ℕ → ℕ → ℕ → ℕ
next_by table m n = bit_or (bit_and m (get_or table (n % 64 * 16 + 15) 0)) (get_or table (n % 64 * 16) 0)
