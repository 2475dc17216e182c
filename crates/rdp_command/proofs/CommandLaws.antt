-- A command by its number. Assumes nothing.
use Prim.Native.Nat.{ℕ, ◌/◌, ◌<◌}
use mathlib.Core.Bool.{Bool, true, not, ◌||◌}
use mathlib.Core.List.{List}
use mathlib.Core.Path.{◌≡◌, refl, ap, sym, ◌∙◌}
use native.Mathlib.Omega.{arith}
use borrow.Author.Tests.{eq-eqb, ne_eqb, eqb-true}
use lib.Dec.{eqb, eqb→eq}
use lib.ListN.{length}
use Rattle.rdp_command.specs.Layout.{Line, layout, triangle_base_lines, key_gb_lines, key_r_lines, convert_lines, scissor_lines, primitive_depth_lines, other_modes_lines, tile_area_lines, block_lines, tile_descriptor_lines, rectangle_lines, fill_color_lines, color_lines, primitive_color_lines, combine_mode_lines, image_lines, depth_image_lines, color_image_lines}
use Rattle.rdp_command.specs.Fields.{Value, fields_of}
use Rattle.rdp_command.specs.Groups.{nat_at, triangle_base_of, key_gb_of, key_r_of, convert_of, scissor_of, primitive_depth_of, other_modes_of, tile_area_of, block_of, tile_descriptor_of, rectangle_of, color_of, primitive_color_of, image_of}
use Rattle.rdp_command.specs.Commands.{command_of}
use Rattle.rdp_command.specs.Decode.{command_in}
use Rattle.rdp_command.specs.declared.Command.{Command}
use Rattle.rdp_command.specs.declared.Command.TheVariants.{Unassigned, FillTriangle, SetKeyGb, SetKeyR, SetConvert, SetScissor, SetPrimitiveDepth, SetOtherModes, LoadTlut, SetTileSize, LoadBlock, LoadTile, SetTile, FillRectangle, SetFillColor, SetFogColor, SetBlendColor, SetPrimitiveColor, SetEnvironmentColor, SetCombineMode, SetTextureImage, SetDepthImage, SetColorImage}
use Rattle.rdp_words.specs.Kinds.{is_no_operation, is_unassigned}
use Rattle.rdp_words.proofs.Tests.{below}
use Rattle.rdp_words.proofs.KindLaws.{unassigned-small}
use Rattle.rdp_command.proofs.Triangles.{layout-at}

-- what is shown at a numeral holds at a number that equals it
pub at-number : (ws : List ℕ) {n k : ℕ} {r : Command} → n ≡ k → r ≡ command_in k ws → r ≡ command_in n ws
at-number ws e p = p ∙ ap (λ (m : ℕ). command_in m ws) (sym e)

pub triangle-command : (n : ℕ) (vs : List Value) → n / 8 ≡ 1 → command_of n vs ≡ FillTriangle (triangle_base_of vs)
unfolding command_of
triangle-command n vs e = rw (eq-eqb _ _ e)

pub at-triangle : (n : ℕ) (ws : List ℕ) → n / 8 ≡ 1 → FillTriangle (triangle_base_of (fields_of triangle_base_lines ws)) ≡ command_in n ws
at-triangle n ws e =
    sym (triangle-command n (fields_of triangle_base_lines ws) e) ∙ ap (λ (ls : List Line). command_of n (fields_of ls ws)) (sym (layout-at n e))

-- a number below those with names of their own
pub low-command : (n : ℕ) (vs : List Value) → n < 0x24 → (n / 8 ≡ 1 → ⊥) → (n ≡ 0x00 → ⊥) → command_of n vs ≡ Unassigned n
unfolding command_of
low-command n vs h t z =
    simp (
      ne_eqb (n / 8) 1 t,
      ne_eqb n 0x24 (λ e. omega arith),
      ne_eqb n 0x25 (λ e. omega arith),
      ne_eqb n 0x26 (λ e. omega arith),
      ne_eqb n 0x27 (λ e. omega arith),
      ne_eqb n 0x28 (λ e. omega arith),
      ne_eqb n 0x29 (λ e. omega arith),
      ne_eqb n 0x2A (λ e. omega arith),
      ne_eqb n 0x2B (λ e. omega arith),
      ne_eqb n 0x2C (λ e. omega arith),
      ne_eqb n 0x2D (λ e. omega arith),
      ne_eqb n 0x2E (λ e. omega arith),
      ne_eqb n 0x2F (λ e. omega arith),
      ne_eqb n 0x30 (λ e. omega arith),
      ne_eqb n 0x32 (λ e. omega arith),
      ne_eqb n 0x33 (λ e. omega arith),
      ne_eqb n 0x34 (λ e. omega arith),
      ne_eqb n 0x35 (λ e. omega arith),
      ne_eqb n 0x36 (λ e. omega arith),
      ne_eqb n 0x37 (λ e. omega arith),
      ne_eqb n 0x38 (λ e. omega arith),
      ne_eqb n 0x39 (λ e. omega arith),
      ne_eqb n 0x3A (λ e. omega arith),
      ne_eqb n 0x3B (λ e. omega arith),
      ne_eqb n 0x3C (λ e. omega arith),
      ne_eqb n 0x3D (λ e. omega arith),
      ne_eqb n 0x3E (λ e. omega arith),
      ne_eqb n 0x3F (λ e. omega arith),
      ne_eqb n 0x00 z,
    )

-- a no operation and an unassigned command have no bit line
pub no-operation-lines : (n : ℕ) → is_no_operation n ≡ true → length (layout n) ≡ 0
unfolding layout
no-operation-lines n e = ap (λ (k : ℕ). length (layout k)) (eqb-true n 0x00 e)

abbrev empty_test : ℕ → Bool
empty_test n = not (is_unassigned n) || eqb (length (layout n)) 0

pub unassigned-lines : (n : ℕ) → is_unassigned n ≡ true → length (layout n) ≡ 0
unfolding layout
unassigned-lines n e =
    let t = below 64 empty_test tt n (unassigned-small n e) in
    eqb→eq (length (layout n)) 0 (rw e at t)

-- the commands of one word that have fields, by their numbers, out of their words
pub record OneWord (ws : List ℕ) : Type 0 where
  pub key-gb : command_in 0x2A ws ≡ SetKeyGb (key_gb_of (fields_of key_gb_lines ws))
  pub key-r : command_in 0x2B ws ≡ SetKeyR (key_r_of (fields_of key_r_lines ws))
  pub convert : command_in 0x2C ws ≡ SetConvert (convert_of (fields_of convert_lines ws))
  pub scissor : command_in 0x2D ws ≡ SetScissor (scissor_of (fields_of scissor_lines ws))
  pub primitive-depth : command_in 0x2E ws ≡ SetPrimitiveDepth (primitive_depth_of (fields_of primitive_depth_lines ws))
  pub other-modes : command_in 0x2F ws ≡ SetOtherModes (other_modes_of (fields_of other_modes_lines ws))
  pub load-tlut : command_in 0x30 ws ≡ LoadTlut (tile_area_of (fields_of tile_area_lines ws))
  pub tile-size : command_in 0x32 ws ≡ SetTileSize (tile_area_of (fields_of tile_area_lines ws))
  pub load-block : command_in 0x33 ws ≡ LoadBlock (block_of (fields_of block_lines ws))
  pub load-tile : command_in 0x34 ws ≡ LoadTile (tile_area_of (fields_of tile_area_lines ws))
  pub tile : command_in 0x35 ws ≡ SetTile (tile_descriptor_of (fields_of tile_descriptor_lines ws))
  pub fill-rectangle : command_in 0x36 ws ≡ FillRectangle (rectangle_of (fields_of rectangle_lines ws))
  pub fill-color : command_in 0x37 ws ≡ SetFillColor (nat_at (fields_of fill_color_lines ws) 0)
  pub fog-color : command_in 0x38 ws ≡ SetFogColor (color_of (fields_of color_lines ws))
  pub blend-color : command_in 0x39 ws ≡ SetBlendColor (color_of (fields_of color_lines ws))
  pub primitive-color : command_in 0x3A ws ≡ SetPrimitiveColor (primitive_color_of (fields_of primitive_color_lines ws))
  pub environment-color : command_in 0x3B ws ≡ SetEnvironmentColor (color_of (fields_of color_lines ws))
  pub combine-mode : command_in 0x3C ws ≡ SetCombineMode (nat_at (fields_of combine_mode_lines ws) 0)
  pub texture-image : command_in 0x3D ws ≡ SetTextureImage (image_of (fields_of image_lines ws))
  pub depth-image : command_in 0x3E ws ≡ SetDepthImage (nat_at (fields_of depth_image_lines ws) 0)
  pub color-image : command_in 0x3F ws ≡ SetColorImage (image_of (fields_of color_image_lines ws))

pub one_word : (ws : List ℕ) → OneWord ws
unfolding command_of layout
one_word ws =
    record {
      key-gb = refl;
      key-r = refl;
      convert = refl;
      scissor = refl;
      primitive-depth = refl;
      other-modes = refl;
      load-tlut = refl;
      tile-size = refl;
      load-block = refl;
      load-tile = refl;
      tile = refl;
      fill-rectangle = refl;
      fill-color = refl;
      fog-color = refl;
      blend-color = refl;
      primitive-color = refl;
      environment-color = refl;
      combine-mode = refl;
      texture-image = refl;
      depth-image = refl;
      color-image = refl;
    }
