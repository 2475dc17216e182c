-- What the drawing's loops carry and reach: the register file, and the acts still to come. No public contract cites this.
use Rattle.std.specs.Prelude.{ℕ, ◌+◌, ◌*◌, ◌/◌, ◌≤◌, cond, List, [], ◌∷◌, ◌≡◌, eqb, length, drop, Option, Some, None}
use Rattle.rdp_words.specs.Words.{word_at}
use Rattle.rdp_words.specs.Kinds.{words_of}
use Rattle.rdp_command.specs.Reads.{color_image_in, fill_fields, copy_fields, load_fields}
use Rattle.rdp_command.specs.declared.FillWords.{FillWords}
use Rattle.rdp_command.specs.declared.CopyWords.{CopyWords}
use Rattle.rdp_command.specs.declared.LoadWords.{LoadWords}
use Rattle.rdp_command.specs.declared.FillFields.{FillFields}
use Rattle.rdp_command.specs.declared.CopyFields.{CopyFields}
use Rattle.rdp_command.specs.declared.LoadFields.{LoadFields}
use Rattle.rdp_words.specs.Grounds.{Answer}
use Rattle.rdp_command.specs.Decode.{answer}
use Rattle.rdp_check.specs.Order.{first_of}
use Rattle.rdp_check.specs.Commands.{commands_of, rest_of}
use Rattle.rdp_state.specs.RegisterWords.{tile_in, word, registers_in}
use Rattle.rdp_draw.specs.declared.walk.Reached.{Reached}
use Rattle.rdp_draw.specs.Draw.{Act, other_draw, other_load, loading, blocking, fill_act, copy_act, Placed, acts_from, act_grounds, act_refusals}

-- ---- an act by the words of the register file

-- the words of the file that a fill, a texture rectangle of a tile, and a load of a tile are done under
abbrev pub fill_words : List ℕ → FillWords
fill_words file = record { modes = word file 5; scissor = word file 3; image = word file 14; color = word file 6 }

abbrev pub copy_words : List ℕ → ℕ → CopyWords
copy_words file t =
    record { modes = word file 5; scissor = word file 3; image = word file 14; tile = word file (15 + t); size = word file (23 + t) }

abbrev pub load_words : List ℕ → ℕ → LoadWords
load_words file t = record { image = word file 12; tile = word file (15 + t) }

-- the fill rectangle, the texture rectangle and the load at a place of a list; a Load Block has the fields of a Load Tile, see `block_area`
abbrev pub fill_at : List ℕ → List ℕ → ℕ → FillFields
fill_at file list at = fill_fields (fill_words file) (word_at list at)

abbrev pub copy_at : List ℕ → List ℕ → ℕ → CopyFields
copy_at file list at = copy_fields (copy_words file (tile_in (word_at list at))) (word_at list at) (word_at list (at + 1))

abbrev pub load_at : List ℕ → List ℕ → ℕ → LoadFields
load_at file list at = load_fields (load_words file (tile_in (word_at list at))) (word_at list at)

-- an act by its number, its first two words and the file there
unfoldable pub act_by : List ℕ → ℕ → ℕ → ℕ → Act
act_by file n w v =
    cond (eqb n 0x36) (fill_act (fill_fields (fill_words file) w))
    (cond (eqb n 0x24) (copy_act (copy_fields (copy_words file (tile_in w)) w v))
    (cond (eqb n 0x34) (loading (load_fields (load_words file (tile_in w)) w))
    (cond (eqb n 0x33) (blocking (load_fields (load_words file (tile_in w)) w))
    (cond (eqb n 0x30) other_load
    (other_draw (color_image_in (word file 14)))))))

-- the act at a place
abbrev pub act_with : List ℕ → List ℕ → ℕ → ℕ → Act
act_with file list at n = act_by file n (word_at list at) (word_at list (at + 1))

abbrev pub placed_with : List ℕ → List ℕ → ℕ → ℕ → Placed
placed_with file list at n = record { place = at; act = act_with file list at n }

-- the first refusal of an act, or 0
abbrev pub act_refusal : ℕ → ℕ → Act → ℕ
act_refusal start len a = first_of (act_refusals start len a) 0

-- ---- the acts still to come

-- the acts from a place of a list on, where no command runs past the end
pub record ActsDue (list : List ℕ) (at : ℕ) (file : List ℕ) (acts : List Placed) : Type 0 where
  pub long : length file ≡ 32
  pub are : acts_from (registers_in file) at (commands_of (drop (8 * at) list)) ≡ acts
  pub whole : rest_of (drop (8 * at) list) ≡ []

-- the next act is the first of those due, and the others are due after it; or there is none. The file is that after the act: a load's own word is in it
-- already, which the load does not read
pub record Next (list : List ℕ) (r : Reached) (file : List ℕ) (acts : List Placed) : Type 0 where
  pub some : 1 ≤ words_of r.number
  pub inside : r.place + words_of r.number ≤ length list / 8
  pub others : List Placed
  pub first : acts ≡ placed_with file list r.place r.number ∷ others
  pub due : ActsDue list (r.place + words_of r.number) file others

abbrev pub ReachedIs : List ℕ → ℕ → Option Reached → List ℕ → List Placed → Type 0
ReachedIs list from None file acts = acts ≡ []
ReachedIs list from (Some r) file acts = (from ≤ r.place) × Next list r file acts

-- what the search for the next act gives, whatever is due, with the file before it and after it
abbrev pub Reaches : List ℕ → ℕ → List ℕ → Option Reached → List ℕ → Type 0
Reaches list from file r file' = (acts : List Placed) → ActsDue list from file acts → ReachedIs list from r file' acts

-- the first refusal of acts, at its place; 0 at the number of words where there is none
unfoldable pub first_refusal : ℕ → ℕ → ℕ → List Placed → Answer
first_refusal start len words acts = first_of (act_grounds start len acts) (answer 0 words)
