-- Small acts computed from the definitions. Assumes nothing.
use mathlib.Core.Path.{◌≡◌, refl}
use mathlib.Core.Bool.{true, false}
use mathlib.Core.List.{List, [], ◌∷◌}
use Prim.Native.Nat.{ℕ}
use lib.IntN.{ℤ, pos, negsuc}
use lib.ListN.{replicate}
use Rattle.rdp_command.specs.declared.TileDescriptor.{TileDescriptor}
use Rattle.rdp_command.specs.declared.LoadFields.{LoadFields}
use Rattle.rdp_command.specs.declared.CopyFields.{CopyFields}
use Rattle.rdp_texels.specs.Texels.{turned, some, moves_over, loaded, copied}
use Rattle.rdp_texels.specs.Load.{load_needs, load_moves}
use Rattle.rdp_texels.specs.Copy.{copy_needs, copy_moves}
use Rattle.rdp_texels.specs.Refusals.{load_refusal, copy_refusal}
use Rattle.rdp_pixels.specs.Kept.{kept, line_kept}

-- tile 0 of 16-bit RGBA texels, 8 bytes a row, at tmem
abbrev tile_at : ℕ → TileDescriptor
tile_at tmem =
    record {
      format = 0;
      size = 2;
      line = 1;
      address = tmem;
      index = 0;
      palette = 0;
      clamp_t = false;
      mirror_t = false;
      mask_t = 0;
      shift_t = 0;
      clamp_s = false;
      mirror_s = false;
      mask_s = 0;
      shift_s = 0;
    }

-- two rows of four texels, of an image of width 4 at address 100
load : LoadFields
load =
    record {
      image_set = true;
      image = record { format = 0; size = 2; width = 3; address = 100 };
      tile_set = true;
      tile = tile_at 0;
      area = record { upper_left = record { s = 0; t = 0 }; tile = 0; lower_right = record { s = 15; t = 4 } };
    }

bytes : List ℕ
bytes = 0 ∷ 1 ∷ 2 ∷ 3 ∷ 4 ∷ 5 ∷ 6 ∷ 7 ∷ 8 ∷ 9 ∷ 10 ∷ 11 ∷ 12 ∷ 13 ∷ 14 ∷ 15 ∷ []

turned_bytes : List ℕ
turned_bytes = 0 ∷ 1 ∷ 2 ∷ 3 ∷ 4 ∷ 5 ∷ 6 ∷ 7 ∷ 12 ∷ 13 ∷ 14 ∷ 15 ∷ 8 ∷ 9 ∷ 10 ∷ 11 ∷ []

-- row 1 has its halves exchanged in texture memory
loads-turned : loaded 100 bytes (load_moves load) (replicate 16 0) ≡ turned_bytes
unfolding load bytes turned_bytes loaded load_moves moves_over turned
loads-turned = refl

-- all 16 bytes are needed
loads-whole : load_refusal load 100 16 ≡ 0
unfolding load load_refusal load_needs load_moves moves_over some turned
loads-whole = refl

loads-short : load_refusal load 100 15 ≡ 12
unfolding load load_refusal load_needs load_moves moves_over some turned
loads-short = refl

-- a rectangle of four by two pixels on an image of width 4 at address 0, with texture coordinate t
copy : ℤ → ℕ → CopyFields
copy t tmem =
    record {
      cycle_type = 2;
      rectangle =
          record {
            lower_right = record { x = 12; y = 4 };
            tile = 0;
            upper_left = record { x = 0; y = 0 };
            step = record { s = pos 0; t = t; dsdx = pos 0x1000; dtdy = pos 0x0400 };
          };
      tile_set = true;
      tile = tile_at tmem;
      tile_corner = record { s = 0; t = 0 };
      scissor = record { upper_left = record { x = 0; y = 0 }; «field» = false; odd = false; lower_right = record { x = 16; y = 16 } };
      image = record { format = 0; size = 2; width = 3; address = 0 };
      perspective = false;
      lookup = false;
      alpha_compare = false;
    }

-- what was loaded comes back
copies-back : copied 0 turned_bytes (copy_moves (copy (pos 0) 0)) (replicate 16 0) ≡ bytes
unfolding copy bytes turned_bytes copied copy_moves moves_over turned kept line_kept
copies-back = refl

-- rows -1 and 0 of a tile that begins at byte 8: row -1 is odd, and stands at byte 0; with the tile at byte 0 it is below 0
copies-above : copied 0 turned_bytes (copy_moves (copy (negsuc 31) 1)) (replicate 16 0)
    ≡ 4 ∷ 5 ∷ 6 ∷ 7 ∷ 0 ∷ 1 ∷ 2 ∷ 3 ∷ 12 ∷ 13 ∷ 14 ∷ 15 ∷ 8 ∷ 9 ∷ 10 ∷ 11 ∷ []
unfolding copy turned_bytes copied copy_moves moves_over turned kept line_kept
copies-above = refl

copies-below-0 : copy_refusal (copy (negsuc 31) 0) 0 16 ≡ 18
unfolding copy copy_refusal copy_needs copy_moves moves_over some turned kept line_kept
copies-below-0 = refl

-- half a texel is no whole one
copies-half : copy_refusal (copy (pos 16) 0) 0 16 ≡ 17
unfolding copy copy_refusal copy_needs
copies-half = refl
