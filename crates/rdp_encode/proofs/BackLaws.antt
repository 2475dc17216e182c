-- A command from its own number and values is the command again. Assumes nothing.
use Rattle.std.proofs.Common.{Bool, true, false, [], ◌≡◌, refl, ap, ◌∙◌, eqb}
use mir.Val.{bool_byte}
use Rattle.rdp_command.specs.Groups.{scissor_of, scissor_values, other_modes_of, other_modes_values, tile_descriptor_of, tile_descriptor_values, triangle_base_of, triangle_base_values}
use Rattle.rdp_command.specs.Commands.{command_of, values_of, number_of}
use Rattle.rdp_encode.specs.Encode.{number_in_row}
use Rattle.rdp_command.specs.declared.Scissor.{Scissor}
use Rattle.rdp_command.specs.declared.OtherModes.{OtherModes}
use Rattle.rdp_command.specs.declared.TileDescriptor.{TileDescriptor}
use Rattle.rdp_command.specs.declared.TriangleBase.{TriangleBase}
use Rattle.rdp_command.specs.declared.Command.{Command}
use Rattle.rdp_command.specs.declared.Command.TheVariants.{NoOperation, FillTriangle, TextureRectangle, TextureRectangleFlip, SyncLoad, SyncPipe, SyncTile, SyncFull, SetKeyGb, SetKeyR, SetConvert, SetScissor, SetPrimitiveDepth, SetOtherModes, LoadTlut, SetTileSize, LoadBlock, LoadTile, SetTile, FillRectangle, SetFillColor, SetFogColor, SetBlendColor, SetPrimitiveColor, SetEnvironmentColor, SetCombineMode, SetTextureImage, SetDepthImage, SetColorImage, Unassigned}
use Rattle.rdp_command.proofs.Triangles.{triangle-eighth}
use Rattle.rdp_command.proofs.CommandLaws.{triangle-command}
use Rattle.rdp_command.proofs.GroupLaws.{none-command, unassigned-command}

-- ---- flags

flag-back : (b : Bool) → eqb (bool_byte b) 1 ≡ b
flag-back true = refl
flag-back false = refl

scissor-back : (g : Scissor) → scissor_of (scissor_values g) ≡ g
scissor-back g = λ i. record {
  upper_left = g.upper_left;
  «field» = flag-back g.«field» i;
  odd = flag-back g.odd i;
  lower_right = g.lower_right;
}

other-modes-back : (g : OtherModes) → other_modes_of (other_modes_values g) ≡ g
other-modes-back g = λ i. record {
  atomic_prim = flag-back g.atomic_prim i;
  cycle_type = g.cycle_type;
  texture = record {
    persp_tex_en = flag-back g.texture.persp_tex_en i;
    detail_tex_en = flag-back g.texture.detail_tex_en i;
    sharpen_tex_en = flag-back g.texture.sharpen_tex_en i;
    tex_lod_en = flag-back g.texture.tex_lod_en i;
    tlut_en = flag-back g.texture.tlut_en i;
    tlut_type = flag-back g.texture.tlut_type i;
    sample_type = flag-back g.texture.sample_type i;
    mid_texel = flag-back g.texture.mid_texel i;
    bi_lerp_0 = flag-back g.texture.bi_lerp_0 i;
    bi_lerp_1 = flag-back g.texture.bi_lerp_1 i;
    convert_one = flag-back g.texture.convert_one i;
  };
  key_en = flag-back g.key_en i;
  rgb_dither_sel = g.rgb_dither_sel;
  alpha_dither_sel = g.alpha_dither_sel;
  blender = g.blender;
  pixel = record {
    force_blend = flag-back g.pixel.force_blend i;
    alpha_cvg_select = flag-back g.pixel.alpha_cvg_select i;
    cvg_x_alpha = flag-back g.pixel.cvg_x_alpha i;
    z_mode = g.pixel.z_mode;
    cvg_dest = g.pixel.cvg_dest;
    color_on_cvg = flag-back g.pixel.color_on_cvg i;
    image_read_en = flag-back g.pixel.image_read_en i;
    z_update_en = flag-back g.pixel.z_update_en i;
    z_compare_en = flag-back g.pixel.z_compare_en i;
    antialias_en = flag-back g.pixel.antialias_en i;
    z_source_sel = flag-back g.pixel.z_source_sel i;
    dither_alpha_en = flag-back g.pixel.dither_alpha_en i;
    alpha_compare_en = flag-back g.pixel.alpha_compare_en i;
  };
}

tile-descriptor-back : (g : TileDescriptor) → tile_descriptor_of (tile_descriptor_values g) ≡ g
tile-descriptor-back g = λ i. record {
  format = g.format;
  size = g.size;
  line = g.line;
  address = g.address;
  index = g.index;
  palette = g.palette;
  clamp_t = flag-back g.clamp_t i;
  mirror_t = flag-back g.mirror_t i;
  mask_t = g.mask_t;
  shift_t = g.shift_t;
  clamp_s = flag-back g.clamp_s i;
  mirror_s = flag-back g.mirror_s i;
  mask_s = g.mask_s;
  shift_s = g.shift_s;
}

triangle-base-back : (g : TriangleBase) → triangle_base_of (triangle_base_values g) ≡ g
triangle-base-back g = λ i. record {
  shade = flag-back g.shade i;
  texture = flag-back g.texture i;
  zbuffer = flag-back g.zbuffer i;
  lmajor = flag-back g.lmajor i;
  level = g.level;
  tile = g.tile;
  yl = g.yl;
  ym = g.ym;
  yh = g.yh;
  l = g.l;
  h = g.h;
  m = g.m;
}

-- a command from its own number and values
pub command-back : (c : Command) → number_in_row c ≡ true → command_of (number_of c) (values_of c) ≡ c
unfolding command_of
command-back (NoOperation n) e = none-command n [] e
command-back (FillTriangle g) e =
    triangle-command (number_of (FillTriangle g)) (triangle_base_values g) (triangle-eighth g) ∙ ap FillTriangle (triangle-base-back g)
command-back (TextureRectangle g) e = refl
command-back (TextureRectangleFlip g) e = refl
command-back SyncLoad e = refl
command-back SyncPipe e = refl
command-back SyncTile e = refl
command-back SyncFull e = refl
command-back (SetKeyGb g) e = refl
command-back (SetKeyR g) e = refl
command-back (SetConvert g) e = refl
command-back (SetScissor g) e = ap SetScissor (scissor-back g)
command-back (SetPrimitiveDepth g) e = refl
command-back (SetOtherModes g) e = ap SetOtherModes (other-modes-back g)
command-back (LoadTlut g) e = refl
command-back (SetTileSize g) e = refl
command-back (LoadBlock g) e = refl
command-back (LoadTile g) e = refl
command-back (SetTile g) e = ap SetTile (tile-descriptor-back g)
command-back (FillRectangle g) e = refl
command-back (SetFillColor g) e = refl
command-back (SetFogColor g) e = refl
command-back (SetBlendColor g) e = refl
command-back (SetPrimitiveColor g) e = refl
command-back (SetEnvironmentColor g) e = refl
command-back (SetCombineMode g) e = refl
command-back (SetTextureImage g) e = refl
command-back (SetDepthImage g) e = refl
command-back (SetColorImage g) e = refl
command-back (Unassigned n) e = unassigned-command n [] e
