-- The registers as the words that last set them: a slot for each, with 0 before the first such word. A word that sets a register has the number of its
-- command in it, so it is not 0.
use Rattle.std.specs.Prelude.{ℕ, ◌+◌, ◌-◌, ◌/◌, ◌%◌, ◌^◌, Bool, cond, not, ◌&&◌, List, [], ◌∷◌, eqb, ltb, leb, get_or, set}
use Rattle.rdp_words.specs.Kinds.{among}
use Rattle.rdp_command.specs.Layout.{key_gb_lines, key_r_lines, convert_lines, primitive_depth_lines, color_lines, primitive_color_lines, combine_mode_lines, depth_image_lines}
use Rattle.rdp_command.specs.Groups.{nat_at, key_gb_of, key_r_of, convert_of, primitive_depth_of, color_of, primitive_color_of}
use Rattle.rdp_command.specs.Reads.{fields_in, other_modes_in, scissor_in, fill_color_in, color_image_in, texture_image_in, tile_descriptor_in, tile_area_in}
use Rattle.rdp_check.specs.Registers.{colors_of, combiner_of, modes_of, images_of}
use Rattle.rdp_command.specs.declared.Color.{Color}
use Rattle.rdp_check.specs.declared.Register.{Register}
use Rattle.rdp_check.specs.declared.Tile.{Tile}
use Rattle.rdp_check.specs.declared.Colors.{Colors}
use Rattle.rdp_check.specs.declared.Combiner.{Combiner}
use Rattle.rdp_check.specs.declared.Modes.{Modes}
use Rattle.rdp_check.specs.declared.Images.{Images}
use Rattle.rdp_check.specs.declared.Registers.{Registers}

-- ---- the slots

-- the tile that a word names
abbrev pub tile_in : ℕ → ℕ
tile_in w = w / 2 ^ 24 % 8

-- the slot of the register that a command sets, by its number and its tile: those of 0x2A to 0x2F and of 0x37 to 0x3F in order, then eight descriptors
-- and eight sizes of tiles; 31 for all other commands, which set none
unfoldable pub slot_of : ℕ → ℕ → ℕ
slot_of n t =
    cond (eqb n 0x35) (15 + t)
    (cond (among n (0x30 ∷ 0x32 ∷ 0x33 ∷ 0x34 ∷ [])) (23 + t)
    (cond (leb 0x37 n) (n - 0x31)
    (cond (leb 0x2A n && ltb n 0x30) (n - 0x2A)
    31)))

-- the words after a command, by its number and its first word, which is stored where a register is set. Slot 31, which nothing reads, stays
abbrev pub stored_at : ℕ → List ℕ → ℕ → List ℕ
stored_at slot words w = cond (eqb slot 31) words (set words slot w)

abbrev pub words_after : List ℕ → ℕ → ℕ → List ℕ
words_after words n w = stored_at (slot_of n (tile_in w)) words w

-- ---- the registers

-- a register by whether it is set
abbrev pub set_if : {A : Type 0} → Bool → A → Register A
set_if s v = record { set = s; value = v }

-- the registers by functions of the slots: whether the register is set, and its word
abbrev pub color_by : Bool → ℕ → Register Color
color_by s w = set_if s (color_of (fields_in color_lines w))

abbrev pub colors_by : (ℕ → Bool) → (ℕ → ℕ) → Colors
colors_by s w =
    colors_of (set_if (s 6) (fill_color_in (w 6))) (color_by (s 7) (w 7)) (color_by (s 8) (w 8))
    (set_if (s 9) (primitive_color_of (fields_in primitive_color_lines (w 9))))
    (color_by (s 10) (w 10))

abbrev pub combiner_by : (ℕ → Bool) → (ℕ → ℕ) → Combiner
combiner_by s w =
    combiner_of (set_if (s 11) (nat_at (fields_in combine_mode_lines (w 11)) 0)) (set_if (s 0) (key_gb_of (fields_in key_gb_lines (w 0))))
    (set_if (s 1) (key_r_of (fields_in key_r_lines (w 1))))
    (set_if (s 2) (convert_of (fields_in convert_lines (w 2))))

abbrev pub modes_by : (ℕ → Bool) → (ℕ → ℕ) → Modes
modes_by s w =
    modes_of (set_if (s 5) (other_modes_in (w 5)))
    (set_if (s 4) (primitive_depth_of (fields_in primitive_depth_lines (w 4))))
    (set_if (s 3) (scissor_in (w 3)))

abbrev pub images_by : (ℕ → Bool) → (ℕ → ℕ) → Images
images_by s w =
    images_of (set_if (s 14) (color_image_in (w 14)))
    (set_if (s 12) (texture_image_in (w 12)))
    (set_if (s 13) (nat_at (fields_in depth_image_lines (w 13)) 0))

-- a tile by the words of its descriptor and of its size
abbrev pub tile_with : Bool → ℕ → Bool → ℕ → Tile
tile_with set d sized a =
    record {
      descriptor = set_if set (tile_descriptor_in d);
      size = set_if sized (record { upper_left = (tile_area_in a).upper_left; lower_right = (tile_area_in a).lower_right });
    }

abbrev pub tile_by : (ℕ → Bool) → (ℕ → ℕ) → ℕ → Tile
tile_by s w t = tile_with (s (15 + t)) (w (15 + t)) (s (23 + t)) (w (23 + t))

abbrev pub tiles_by : (ℕ → Bool) → (ℕ → ℕ) → List Tile
tiles_by s w = tile_by s w 0 ∷ tile_by s w 1 ∷ tile_by s w 2 ∷ tile_by s w 3 ∷ tile_by s w 4 ∷ tile_by s w 5 ∷ tile_by s w 6 ∷ tile_by s w 7 ∷ []

unfoldable pub registers_by : (ℕ → Bool) → (ℕ → ℕ) → Registers
registers_by s w = record { colors = colors_by s w; combiner = combiner_by s w; modes = modes_by s w; images = images_by s w; tiles = tiles_by s w }

-- the registers of 32 words; one is set where its word is not 0
abbrev pub is_set : List ℕ → ℕ → Bool
is_set words k = not (eqb (get_or words k 0) 0)

abbrev pub word : List ℕ → ℕ → ℕ
word words k = get_or words k 0

abbrev pub registers_in : List ℕ → Registers
registers_in words = registers_by (is_set words) (word words)
