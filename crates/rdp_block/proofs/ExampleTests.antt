-- Small blocks computed from the definitions. Assumes nothing.
use mathlib.Core.Path.{◌≡◌, refl}
use mathlib.Core.Bool.{true, false}
use mathlib.Core.List.{List, [], ◌∷◌}
use Prim.Native.Nat.{ℕ}
use lib.ListN.{replicate}
use Rattle.rdp_command.specs.declared.LoadFields.{LoadFields}
use Rattle.rdp_texels.specs.Texels.{turned, some, moves_over, loaded}
use Rattle.rdp_texels.specs.Load.{load_needs}
use Rattle.rdp_block.specs.Block.{block_needs, block_moves, block_refusal}

-- a block from texel 0 to a last one, of an image of width 4 at address 100, to tile 0 at the start of texture memory
block : ℕ → ℕ → LoadFields
block last dxt =
    record {
      image_set = true;
      image = record { format = 0; size = 2; width = 3; address = 100 };
      tile_set = true;
      tile =
          record {
            format = 0;
            size = 2;
            line = 1;
            address = 0;
            index = 0;
            palette = 0;
            clamp_t = false;
            mirror_t = false;
            mask_t = 0;
            shift_t = 0;
            clamp_s = false;
            mirror_s = false;
            mask_s = 0;
            shift_s = 0;
          };
      area = record { upper_left = record { s = 0; t = 0 }; tile = 0; lower_right = record { s = last; t = dxt } };
    }

bytes : List ℕ
bytes = 1 ∷ 2 ∷ 3 ∷ 4 ∷ 5 ∷ 6 ∷ 7 ∷ 8 ∷ 9 ∷ 10 ∷ 11 ∷ 12 ∷ 13 ∷ 14 ∷ []

-- seven texels: by dxt 2,048 the second word is turned, and the two bytes that it does not fill stay as they were
turns-a-word :
    loaded 100 bytes (block_moves (block 6 2048)) (replicate 16 0) ≡ 1 ∷ 2 ∷ 3 ∷ 4 ∷ 5 ∷ 6 ∷ 7 ∷ 8 ∷ 13 ∷ 14 ∷ 0 ∷ 0 ∷ 9 ∷ 10 ∷ 11 ∷ 12 ∷ []
unfolding block bytes loaded block_moves moves_over turned
turns-a-word = refl

-- by 2,047 it is still of the first line
turns-none :
    loaded 100 bytes (block_moves (block 6 2047)) (replicate 16 0) ≡ 1 ∷ 2 ∷ 3 ∷ 4 ∷ 5 ∷ 6 ∷ 7 ∷ 8 ∷ 9 ∷ 10 ∷ 11 ∷ 12 ∷ 13 ∷ 14 ∷ 0 ∷ 0 ∷ []
unfolding block bytes loaded block_moves moves_over turned
turns-none = refl

-- all 14 bytes are needed; the number of texels is judged before that
takes_all : block_refusal (block 6 2048) 100 14 ≡ 0
unfolding block block_refusal block_needs load_needs block_moves moves_over some turned
takes_all = refl

takes-more : block_refusal (block 6 2048) 100 13 ≡ 12
unfolding block block_refusal block_needs load_needs block_moves moves_over some turned
takes-more = refl

takes-too-many : block_refusal (block 2048 0) 100 0 ≡ 17
unfolding block block_refusal block_needs load_needs
takes-too-many = refl
