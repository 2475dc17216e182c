-- Each group of fields from the values of its bit lines, in the order of the layout, and back.
use Rattle.std.specs.Prelude.{Bool, List, [], ◌∷◌, ◌++◌, ℕ, eqb, ℤ, pos, get_or, drop}
use Rattle.rdp_command.specs.Fields.{Value, unsigned, signed, flag}
use Rattle.rdp_command.specs.declared.Edge.{Edge}
use Rattle.rdp_command.specs.declared.TriangleBase.{TriangleBase}
use Rattle.rdp_command.specs.declared.TextureStep.{TextureStep}
use Rattle.rdp_command.specs.declared.TexturedRectangle.{TexturedRectangle}
use Rattle.rdp_command.specs.declared.KeyGb.{KeyGb}
use Rattle.rdp_command.specs.declared.KeyR.{KeyR}
use Rattle.rdp_command.specs.declared.Convert.{Convert}
use Rattle.rdp_command.specs.declared.Scissor.{Scissor}
use Rattle.rdp_command.specs.declared.PrimitiveDepth.{PrimitiveDepth}
use Rattle.rdp_command.specs.declared.TextureModes.{TextureModes}
use Rattle.rdp_command.specs.declared.BlenderInputs.{BlenderInputs}
use Rattle.rdp_command.specs.declared.PixelModes.{PixelModes}
use Rattle.rdp_command.specs.declared.OtherModes.{OtherModes}
use Rattle.rdp_command.specs.declared.TileArea.{TileArea}
use Rattle.rdp_command.specs.declared.Block.{Block}
use Rattle.rdp_command.specs.declared.TileDescriptor.{TileDescriptor}
use Rattle.rdp_command.specs.declared.Rectangle.{Rectangle}
use Rattle.rdp_command.specs.declared.Color.{Color}
use Rattle.rdp_command.specs.declared.PrimitiveColor.{PrimitiveColor}
use Rattle.rdp_command.specs.declared.Image.{Image}

-- a value as a number, and as a signed number
abbrev pub nat_of : Value → ℕ
nat_of (unsigned n) = n
nat_of (signed z) = 0

abbrev pub int_of : Value → ℤ
int_of (unsigned n) = pos n
int_of (signed z) = z

-- value k as a number, as a signed number and as a flag
abbrev pub nat_at : List Value → ℕ → ℕ
nat_at vs k = nat_of (get_or vs k (unsigned 0))

abbrev pub int_at : List Value → ℕ → ℤ
int_at vs k = int_of (get_or vs k (unsigned 0))

abbrev pub flag_at : List Value → ℕ → Bool
flag_at vs k = eqb (nat_at vs k) 1

-- Fill Triangle
abbrev pub edge_of : List Value → Edge
edge_of vs =
    record {
      x = record { i = int_at vs 0; f = nat_at vs 1 };
      dxdy = record { i = int_at vs 2; f = nat_at vs 3 };
    }

abbrev pub edge_values : Edge → List Value
edge_values g = signed g.x.i ∷ unsigned g.x.f ∷ signed g.dxdy.i ∷ unsigned g.dxdy.f ∷ []

abbrev pub triangle_base_of : List Value → TriangleBase
triangle_base_of vs =
    record {
      shade = flag_at vs 0;
      texture = flag_at vs 1;
      zbuffer = flag_at vs 2;
      lmajor = flag_at vs 3;
      level = nat_at vs 4;
      tile = nat_at vs 5;
      yl = int_at vs 6;
      ym = int_at vs 7;
      yh = int_at vs 8;
      l = edge_of (drop 9 vs);
      h = edge_of (drop 13 vs);
      m = edge_of (drop 17 vs);
    }

abbrev pub triangle_base_values : TriangleBase → List Value
triangle_base_values g =
    flag g.shade ∷
    flag g.texture ∷
    flag g.zbuffer ∷
    flag g.lmajor ∷
    unsigned g.level ∷
    unsigned g.tile ∷
    signed g.yl ∷
    signed g.ym ∷
    signed g.yh ∷
    (edge_values g.l ++ (edge_values g.h ++ edge_values g.m))

-- Texture Rectangle and Texture Rectangle Flip
abbrev pub texture_step_of : List Value → TextureStep
texture_step_of vs = record { s = int_at vs 0; t = int_at vs 1; dsdx = int_at vs 2; dtdy = int_at vs 3 }

abbrev pub texture_step_values : TextureStep → List Value
texture_step_values g = signed g.s ∷ signed g.t ∷ signed g.dsdx ∷ signed g.dtdy ∷ []

abbrev pub textured_rectangle_of : List Value → TexturedRectangle
textured_rectangle_of vs =
    record {
      lower_right = record { x = nat_at vs 0; y = nat_at vs 1 };
      tile = nat_at vs 2;
      upper_left = record { x = nat_at vs 3; y = nat_at vs 4 };
      step = texture_step_of (drop 5 vs);
    }

abbrev pub textured_rectangle_values : TexturedRectangle → List Value
textured_rectangle_values g =
    unsigned g.lower_right.x ∷
    unsigned g.lower_right.y ∷
    unsigned g.tile ∷
    unsigned g.upper_left.x ∷
    unsigned g.upper_left.y ∷
    texture_step_values g.step

-- Set Key GB
abbrev pub key_gb_of : List Value → KeyGb
key_gb_of vs =
    record {
      width_g = nat_at vs 0;
      width_b = nat_at vs 1;
      center_g = nat_at vs 2;
      scale_g = nat_at vs 3;
      center_b = nat_at vs 4;
      scale_b = nat_at vs 5;
    }

abbrev pub key_gb_values : KeyGb → List Value
key_gb_values g =
    unsigned g.width_g ∷
    unsigned g.width_b ∷
    unsigned g.center_g ∷
    unsigned g.scale_g ∷
    unsigned g.center_b ∷
    unsigned g.scale_b ∷
    []

-- Set Key R
abbrev pub key_r_of : List Value → KeyR
key_r_of vs =
    record {
      width_r = nat_at vs 0;
      center_r = nat_at vs 1;
      scale_r = nat_at vs 2;
    }

abbrev pub key_r_values : KeyR → List Value
key_r_values g =
    unsigned g.width_r ∷
    unsigned g.center_r ∷
    unsigned g.scale_r ∷
    []

-- Set Convert
abbrev pub convert_of : List Value → Convert
convert_of vs =
    record {
      k0 = nat_at vs 0;
      k1 = nat_at vs 1;
      k2 = nat_at vs 2;
      k3 = nat_at vs 3;
      k4 = nat_at vs 4;
      k5 = nat_at vs 5;
    }

abbrev pub convert_values : Convert → List Value
convert_values g =
    unsigned g.k0 ∷
    unsigned g.k1 ∷
    unsigned g.k2 ∷
    unsigned g.k3 ∷
    unsigned g.k4 ∷
    unsigned g.k5 ∷
    []

-- Set Scissor
abbrev pub scissor_of : List Value → Scissor
scissor_of vs =
    record {
      upper_left = record {
        x = nat_at vs 0;
        y = nat_at vs 1;
      };
      «field» = flag_at vs 2;
      odd = flag_at vs 3;
      lower_right = record {
        x = nat_at vs 4;
        y = nat_at vs 5;
      };
    }

abbrev pub scissor_values : Scissor → List Value
scissor_values g =
    unsigned g.upper_left.x ∷
    unsigned g.upper_left.y ∷
    flag g.«field» ∷
    flag g.odd ∷
    unsigned g.lower_right.x ∷
    unsigned g.lower_right.y ∷
    []

-- Set Primitive Depth
abbrev pub primitive_depth_of : List Value → PrimitiveDepth
primitive_depth_of vs =
    record {
      z = nat_at vs 0;
      dz = nat_at vs 1;
    }

abbrev pub primitive_depth_values : PrimitiveDepth → List Value
primitive_depth_values g =
    unsigned g.z ∷
    unsigned g.dz ∷
    []

-- Set Other Modes
abbrev pub texture_modes_of : List Value → TextureModes
texture_modes_of vs =
    record {
      persp_tex_en = flag_at vs 0;
      detail_tex_en = flag_at vs 1;
      sharpen_tex_en = flag_at vs 2;
      tex_lod_en = flag_at vs 3;
      tlut_en = flag_at vs 4;
      tlut_type = flag_at vs 5;
      sample_type = flag_at vs 6;
      mid_texel = flag_at vs 7;
      bi_lerp_0 = flag_at vs 8;
      bi_lerp_1 = flag_at vs 9;
      convert_one = flag_at vs 10;
    }

abbrev pub texture_modes_values : TextureModes → List Value
texture_modes_values g =
    flag g.persp_tex_en ∷
    flag g.detail_tex_en ∷
    flag g.sharpen_tex_en ∷
    flag g.tex_lod_en ∷
    flag g.tlut_en ∷
    flag g.tlut_type ∷
    flag g.sample_type ∷
    flag g.mid_texel ∷
    flag g.bi_lerp_0 ∷
    flag g.bi_lerp_1 ∷
    flag g.convert_one ∷
    []

abbrev pub blender_inputs_of : List Value → BlenderInputs
blender_inputs_of vs =
    record {
      bl_m1a_0 = nat_at vs 0;
      bl_m1a_1 = nat_at vs 1;
      bl_m1b_0 = nat_at vs 2;
      bl_m1b_1 = nat_at vs 3;
      bl_m2a_0 = nat_at vs 4;
      bl_m2a_1 = nat_at vs 5;
      bl_m2b_0 = nat_at vs 6;
      bl_m2b_1 = nat_at vs 7;
    }

abbrev pub blender_inputs_values : BlenderInputs → List Value
blender_inputs_values g =
    unsigned g.bl_m1a_0 ∷
    unsigned g.bl_m1a_1 ∷
    unsigned g.bl_m1b_0 ∷
    unsigned g.bl_m1b_1 ∷
    unsigned g.bl_m2a_0 ∷
    unsigned g.bl_m2a_1 ∷
    unsigned g.bl_m2b_0 ∷
    unsigned g.bl_m2b_1 ∷
    []

abbrev pub pixel_modes_of : List Value → PixelModes
pixel_modes_of vs =
    record {
      force_blend = flag_at vs 0;
      alpha_cvg_select = flag_at vs 1;
      cvg_x_alpha = flag_at vs 2;
      z_mode = nat_at vs 3;
      cvg_dest = nat_at vs 4;
      color_on_cvg = flag_at vs 5;
      image_read_en = flag_at vs 6;
      z_update_en = flag_at vs 7;
      z_compare_en = flag_at vs 8;
      antialias_en = flag_at vs 9;
      z_source_sel = flag_at vs 10;
      dither_alpha_en = flag_at vs 11;
      alpha_compare_en = flag_at vs 12;
    }

abbrev pub pixel_modes_values : PixelModes → List Value
pixel_modes_values g =
    flag g.force_blend ∷
    flag g.alpha_cvg_select ∷
    flag g.cvg_x_alpha ∷
    unsigned g.z_mode ∷
    unsigned g.cvg_dest ∷
    flag g.color_on_cvg ∷
    flag g.image_read_en ∷
    flag g.z_update_en ∷
    flag g.z_compare_en ∷
    flag g.antialias_en ∷
    flag g.z_source_sel ∷
    flag g.dither_alpha_en ∷
    flag g.alpha_compare_en ∷
    []

abbrev pub other_modes_of : List Value → OtherModes
other_modes_of vs =
    record {
      atomic_prim = flag_at vs 0;
      cycle_type = nat_at vs 1;
      texture = texture_modes_of (drop 2 vs);
      key_en = flag_at vs 13;
      rgb_dither_sel = nat_at vs 14;
      alpha_dither_sel = nat_at vs 15;
      blender = blender_inputs_of (drop 16 vs);
      pixel = pixel_modes_of (drop 24 vs);
    }

abbrev pub other_modes_values : OtherModes → List Value
other_modes_values g =
    flag g.atomic_prim ∷
    unsigned g.cycle_type ∷
    (texture_modes_values g.texture ++
    flag g.key_en ∷
    unsigned g.rgb_dither_sel ∷
    unsigned g.alpha_dither_sel ∷
    (blender_inputs_values g.blender ++ pixel_modes_values g.pixel))

-- Load TLUT, Set Tile Size and Load Tile
abbrev pub tile_area_of : List Value → TileArea
tile_area_of vs =
    record {
      upper_left = record {
        s = nat_at vs 0;
        t = nat_at vs 1;
      };
      tile = nat_at vs 2;
      lower_right = record {
        s = nat_at vs 3;
        t = nat_at vs 4;
      };
    }

abbrev pub tile_area_values : TileArea → List Value
tile_area_values g =
    unsigned g.upper_left.s ∷
    unsigned g.upper_left.t ∷
    unsigned g.tile ∷
    unsigned g.lower_right.s ∷
    unsigned g.lower_right.t ∷
    []

-- Load Block
abbrev pub block_of : List Value → Block
block_of vs =
    record {
      upper_left = record {
        s = nat_at vs 0;
        t = nat_at vs 1;
      };
      tile = nat_at vs 2;
      lower_right_s = nat_at vs 3;
      dxt = nat_at vs 4;
    }

abbrev pub block_values : Block → List Value
block_values g =
    unsigned g.upper_left.s ∷
    unsigned g.upper_left.t ∷
    unsigned g.tile ∷
    unsigned g.lower_right_s ∷
    unsigned g.dxt ∷
    []

-- Set Tile
abbrev pub tile_descriptor_of : List Value → TileDescriptor
tile_descriptor_of vs =
    record {
      format = nat_at vs 0;
      size = nat_at vs 1;
      line = nat_at vs 2;
      address = nat_at vs 3;
      index = nat_at vs 4;
      palette = nat_at vs 5;
      clamp_t = flag_at vs 6;
      mirror_t = flag_at vs 7;
      mask_t = nat_at vs 8;
      shift_t = nat_at vs 9;
      clamp_s = flag_at vs 10;
      mirror_s = flag_at vs 11;
      mask_s = nat_at vs 12;
      shift_s = nat_at vs 13;
    }

abbrev pub tile_descriptor_values : TileDescriptor → List Value
tile_descriptor_values g =
    unsigned g.format ∷
    unsigned g.size ∷
    unsigned g.line ∷
    unsigned g.address ∷
    unsigned g.index ∷
    unsigned g.palette ∷
    flag g.clamp_t ∷
    flag g.mirror_t ∷
    unsigned g.mask_t ∷
    unsigned g.shift_t ∷
    flag g.clamp_s ∷
    flag g.mirror_s ∷
    unsigned g.mask_s ∷
    unsigned g.shift_s ∷
    []

-- Fill Rectangle
abbrev pub rectangle_of : List Value → Rectangle
rectangle_of vs =
    record {
      lower_right = record {
        x = nat_at vs 0;
        y = nat_at vs 1;
      };
      upper_left = record {
        x = nat_at vs 2;
        y = nat_at vs 3;
      };
    }

abbrev pub rectangle_values : Rectangle → List Value
rectangle_values g =
    unsigned g.lower_right.x ∷
    unsigned g.lower_right.y ∷
    unsigned g.upper_left.x ∷
    unsigned g.upper_left.y ∷
    []

-- Set Fog Color, Set Blend Color and Set Environment Color
abbrev pub color_of : List Value → Color
color_of vs =
    record {
      red = nat_at vs 0;
      green = nat_at vs 1;
      blue = nat_at vs 2;
      alpha = nat_at vs 3;
    }

abbrev pub color_values : Color → List Value
color_values g =
    unsigned g.red ∷
    unsigned g.green ∷
    unsigned g.blue ∷
    unsigned g.alpha ∷
    []

-- Set Primitive Color
abbrev pub primitive_color_of : List Value → PrimitiveColor
primitive_color_of vs =
    record {
      min_level = nat_at vs 0;
      prim_lod_frac = nat_at vs 1;
      color = color_of (drop 2 vs);
    }

abbrev pub primitive_color_values : PrimitiveColor → List Value
primitive_color_values g = unsigned g.min_level ∷ unsigned g.prim_lod_frac ∷ color_values g.color

-- Set Texture Image and Set Color Image
abbrev pub image_of : List Value → Image
image_of vs =
    record {
      format = nat_at vs 0;
      size = nat_at vs 1;
      width = nat_at vs 2;
      address = nat_at vs 3;
    }

abbrev pub image_values : Image → List Value
image_values g =
    unsigned g.format ∷
    unsigned g.size ∷
    unsigned g.width ∷
    unsigned g.address ∷
    []
