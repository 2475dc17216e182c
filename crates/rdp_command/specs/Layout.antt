-- Document 000's bit lines, in its order, for the commands in the order of their numbers: the one place where bit positions stand, but for a tile's number in
-- rdp_state's `tile_in`. Decoding, encoding, refusal 15 and the fields as numbers are computed from these lists.
use Rattle.std.specs.Prelude.{Bool, true, false, cond, List, [], ◌∷◌, ◌++◌, ℕ, ◌+◌, ◌-◌, ◌/◌, eqb}

-- a bit line: the word of the command, its high and low bit there, and whether it is two's complement
pub record Line : Type 0 where
  pub is_signed : Bool
  pub word : ℕ
  pub high : ℕ
  pub low : ℕ

abbrev pub width : Line → ℕ
width l = l.high - l.low + 1

-- "bit HIGH:LOW" of a word
abbrev pub bits : ℕ → ℕ → ℕ → Line
bits w h l = record { is_signed = false; word = w; high = h; low = l }

-- "bit K" of a word
abbrev pub one_bit : ℕ → ℕ → Line
one_bit w k = bits w k k

-- the lines that 01 names as signed
abbrev pub signed_bits : ℕ → ℕ → ℕ → Line
signed_bits w h l = record { is_signed = true; word = w; high = h; low = l }

-- Fill Triangle, word 0 of the base
abbrev pub triangle_head_lines : List Line
triangle_head_lines =
    one_bit 0 58 ∷  -- shade
    one_bit 0 57 ∷  -- texture
    one_bit 0 56 ∷  -- zbuffer
    one_bit 0 55 ∷  -- lmajor
    bits 0 53 51 ∷  -- level
    bits 0 50 48 ∷  -- tile
    signed_bits 0 45 32 ∷  -- yl
    signed_bits 0 29 16 ∷  -- ym
    signed_bits 0 13 0 ∷  -- yh
    []

-- words 1, 2 and 3 of the base: the edges l, h and m
abbrev pub edge_lines : ℕ → List Line
edge_lines w =
    signed_bits w 59 48 ∷  -- x.i
    bits w 47 32 ∷  -- x.f
    signed_bits w 29 16 ∷  -- dxdy.i
    bits w 15 0 ∷  -- dxdy.f
    []

abbrev pub triangle_base_lines : List Line
triangle_base_lines = triangle_head_lines ++ (edge_lines 1 ++ (edge_lines 2 ++ edge_lines 3))

-- Texture Rectangle and Texture Rectangle Flip
abbrev pub texture_step_lines : ℕ → List Line
texture_step_lines w =
    signed_bits w 63 48 ∷  -- s
    signed_bits w 47 32 ∷  -- t
    signed_bits w 31 16 ∷  -- dsdx
    signed_bits w 15 0 ∷  -- dtdy
    []

abbrev pub textured_rectangle_lines : List Line
textured_rectangle_lines =
    bits 0 55 44 ∷  -- lower_right.x
    bits 0 43 32 ∷  -- lower_right.y
    bits 0 26 24 ∷  -- tile
    bits 0 23 12 ∷  -- upper_left.x
    bits 0 11 0 ∷  -- upper_left.y
    texture_step_lines 1

-- Set Key GB
abbrev pub key_gb_lines : List Line
key_gb_lines =
    bits 0 55 44 ∷  -- width_g
    bits 0 43 32 ∷  -- width_b
    bits 0 31 24 ∷  -- center_g
    bits 0 23 16 ∷  -- scale_g
    bits 0 15 8 ∷  -- center_b
    bits 0 7 0 ∷  -- scale_b
    []

-- Set Key R
abbrev pub key_r_lines : List Line
key_r_lines =
    bits 0 27 16 ∷  -- width_r
    bits 0 15 8 ∷  -- center_r
    bits 0 7 0 ∷  -- scale_r
    []

-- Set Convert
abbrev pub convert_lines : List Line
convert_lines =
    bits 0 53 45 ∷  -- k0
    bits 0 44 36 ∷  -- k1
    bits 0 35 27 ∷  -- k2
    bits 0 26 18 ∷  -- k3
    bits 0 17 9 ∷  -- k4
    bits 0 8 0 ∷  -- k5
    []

-- Set Scissor
abbrev pub scissor_lines : List Line
scissor_lines =
    bits 0 55 44 ∷  -- upper_left.x
    bits 0 43 32 ∷  -- upper_left.y
    one_bit 0 25 ∷  -- field
    one_bit 0 24 ∷  -- odd
    bits 0 23 12 ∷  -- lower_right.x
    bits 0 11 0 ∷  -- lower_right.y
    []

-- Set Primitive Depth
abbrev pub primitive_depth_lines : List Line
primitive_depth_lines =
    bits 0 31 16 ∷  -- z
    bits 0 15 0 ∷  -- dz
    []

-- Set Other Modes; bits 54, 35:32 and 15 are named by no field
abbrev pub texture_modes_lines : List Line
texture_modes_lines =
    one_bit 0 51 ∷  -- persp_tex_en
    one_bit 0 50 ∷  -- detail_tex_en
    one_bit 0 49 ∷  -- sharpen_tex_en
    one_bit 0 48 ∷  -- tex_lod_en
    one_bit 0 47 ∷  -- tlut_en
    one_bit 0 46 ∷  -- tlut_type
    one_bit 0 45 ∷  -- sample_type
    one_bit 0 44 ∷  -- mid_texel
    one_bit 0 43 ∷  -- bi_lerp_0
    one_bit 0 42 ∷  -- bi_lerp_1
    one_bit 0 41 ∷  -- convert_one
    []

abbrev pub blender_inputs_lines : List Line
blender_inputs_lines =
    bits 0 31 30 ∷  -- bl_m1a_0
    bits 0 29 28 ∷  -- bl_m1a_1
    bits 0 27 26 ∷  -- bl_m1b_0
    bits 0 25 24 ∷  -- bl_m1b_1
    bits 0 23 22 ∷  -- bl_m2a_0
    bits 0 21 20 ∷  -- bl_m2a_1
    bits 0 19 18 ∷  -- bl_m2b_0
    bits 0 17 16 ∷  -- bl_m2b_1
    []

abbrev pub pixel_modes_lines : List Line
pixel_modes_lines =
    one_bit 0 14 ∷  -- force_blend
    one_bit 0 13 ∷  -- alpha_cvg_select
    one_bit 0 12 ∷  -- cvg_x_alpha
    bits 0 11 10 ∷  -- z_mode
    bits 0 9 8 ∷  -- cvg_dest
    one_bit 0 7 ∷  -- color_on_cvg
    one_bit 0 6 ∷  -- image_read_en
    one_bit 0 5 ∷  -- z_update_en
    one_bit 0 4 ∷  -- z_compare_en
    one_bit 0 3 ∷  -- antialias_en
    one_bit 0 2 ∷  -- z_source_sel
    one_bit 0 1 ∷  -- dither_alpha_en
    one_bit 0 0 ∷  -- alpha_compare_en
    []

abbrev pub other_modes_lines : List Line
other_modes_lines =
    one_bit 0 55 ∷  -- atomic_prim
    bits 0 53 52 ∷  -- cycle_type
    (texture_modes_lines ++
    one_bit 0 40 ∷  -- key_en
    bits 0 39 38 ∷  -- rgb_dither_sel
    bits 0 37 36 ∷  -- alpha_dither_sel
    (blender_inputs_lines ++ pixel_modes_lines))

-- Load TLUT, Set Tile Size and Load Tile
abbrev pub tile_area_lines : List Line
tile_area_lines =
    bits 0 55 44 ∷  -- upper_left.s
    bits 0 43 32 ∷  -- upper_left.t
    bits 0 26 24 ∷  -- tile
    bits 0 23 12 ∷  -- lower_right.s
    bits 0 11 0 ∷  -- lower_right.t
    []

-- Load Block
abbrev pub block_lines : List Line
block_lines =
    bits 0 55 44 ∷  -- upper_left.s
    bits 0 43 32 ∷  -- upper_left.t
    bits 0 26 24 ∷  -- tile
    bits 0 23 12 ∷  -- lower_right_s
    bits 0 11 0 ∷  -- dxt
    []

-- Set Tile
abbrev pub tile_descriptor_lines : List Line
tile_descriptor_lines =
    bits 0 55 53 ∷  -- format
    bits 0 52 51 ∷  -- size
    bits 0 49 41 ∷  -- line
    bits 0 40 32 ∷  -- address
    bits 0 26 24 ∷  -- index
    bits 0 23 20 ∷  -- palette
    one_bit 0 19 ∷  -- clamp_t
    one_bit 0 18 ∷  -- mirror_t
    bits 0 17 14 ∷  -- mask_t
    bits 0 13 10 ∷  -- shift_t
    one_bit 0 9 ∷  -- clamp_s
    one_bit 0 8 ∷  -- mirror_s
    bits 0 7 4 ∷  -- mask_s
    bits 0 3 0 ∷  -- shift_s
    []

-- Fill Rectangle
abbrev pub rectangle_lines : List Line
rectangle_lines =
    bits 0 55 44 ∷  -- lower_right.x
    bits 0 43 32 ∷  -- lower_right.y
    bits 0 23 12 ∷  -- upper_left.x
    bits 0 11 0 ∷  -- upper_left.y
    []

-- Set Fog Color, Set Blend Color and Set Environment Color
abbrev pub color_lines : List Line
color_lines =
    bits 0 31 24 ∷  -- red
    bits 0 23 16 ∷  -- green
    bits 0 15 8 ∷  -- blue
    bits 0 7 0 ∷  -- alpha
    []

-- Set Primitive Color
abbrev pub primitive_color_lines : List Line
primitive_color_lines =
    bits 0 47 40 ∷  -- min_level
    bits 0 39 32 ∷  -- prim_lod_frac
    bits 0 31 24 ∷  -- color.red
    bits 0 23 16 ∷  -- color.green
    bits 0 15 8 ∷  -- color.blue
    bits 0 7 0 ∷  -- color.alpha
    []

-- Set Texture Image
abbrev pub image_lines : List Line
image_lines =
    bits 0 55 53 ∷  -- format
    bits 0 52 51 ∷  -- size
    bits 0 41 32 ∷  -- width
    bits 0 23 0 ∷  -- address
    []

-- Set Color Image; its address has the bits that document 01 names
abbrev pub color_image_lines : List Line
color_image_lines =
    bits 0 55 53 ∷  -- format
    bits 0 52 51 ∷  -- size
    bits 0 41 32 ∷  -- width
    bits 0 25 0 ∷  -- address
    []

-- Set Fill Color
abbrev pub fill_color_lines : List Line
fill_color_lines = bits 0 31 0 ∷ []

-- Set Combine Mode, kept as one number
abbrev pub combine_mode_lines : List Line
combine_mode_lines = bits 0 55 0 ∷ []

-- Set Depth Image
abbrev pub depth_image_lines : List Line
depth_image_lines = bits 0 23 0 ∷ []

-- the bit lines of a command after its number; a no operation, an unassigned number and a sync have none
unfoldable pub layout : ℕ → List Line
layout n =
    cond (eqb (n / 8) 1) triangle_base_lines
    (cond (eqb n 0x24) textured_rectangle_lines
    (cond (eqb n 0x25) textured_rectangle_lines
    (cond (eqb n 0x2A) key_gb_lines
    (cond (eqb n 0x2B) key_r_lines
    (cond (eqb n 0x2C) convert_lines
    (cond (eqb n 0x2D) scissor_lines
    (cond (eqb n 0x2E) primitive_depth_lines
    (cond (eqb n 0x2F) other_modes_lines
    (cond (eqb n 0x30) tile_area_lines
    (cond (eqb n 0x32) tile_area_lines
    (cond (eqb n 0x33) block_lines
    (cond (eqb n 0x34) tile_area_lines
    (cond (eqb n 0x35) tile_descriptor_lines
    (cond (eqb n 0x36) rectangle_lines
    (cond (eqb n 0x37) fill_color_lines
    (cond (eqb n 0x38) color_lines
    (cond (eqb n 0x39) color_lines
    (cond (eqb n 0x3A) primitive_color_lines
    (cond (eqb n 0x3B) color_lines
    (cond (eqb n 0x3C) combine_mode_lines
    (cond (eqb n 0x3D) image_lines
    (cond (eqb n 0x3E) depth_image_lines
    (cond (eqb n 0x3F) color_image_lines
    [])))))))))))))))))))))))
