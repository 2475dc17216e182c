-- Document 01, "Words and lengths": the registers and the eight tile descriptors, at the start and after a decoded command.
use Rattle.std.specs.Prelude.{ℕ, ◌%◌, true, false, List, get_or, set, replicate}
use Rattle.rdp_command.specs.declared.Color.{Color}
use Rattle.rdp_command.specs.declared.PrimitiveColor.{PrimitiveColor}
use Rattle.rdp_command.specs.declared.KeyGb.{KeyGb}
use Rattle.rdp_command.specs.declared.KeyR.{KeyR}
use Rattle.rdp_command.specs.declared.Convert.{Convert}
use Rattle.rdp_command.specs.declared.OtherModes.{OtherModes}
use Rattle.rdp_command.specs.declared.PrimitiveDepth.{PrimitiveDepth}
use Rattle.rdp_command.specs.declared.Scissor.{Scissor}
use Rattle.rdp_command.specs.declared.Image.{Image}
use Rattle.rdp_command.specs.declared.TileDescriptor.{TileDescriptor}
use Rattle.rdp_command.specs.declared.TexelCorner.{TexelCorner}
use Rattle.rdp_command.specs.Decode.{Decoded}
use Rattle.rdp_command.specs.Decode.{Whole, Refused}
use Rattle.rdp_command.specs.declared.Command.{Command}
use Rattle.rdp_command.specs.declared.Command.TheVariants.{NoOperation, FillTriangle, TextureRectangle, TextureRectangleFlip, SyncLoad, SyncPipe, SyncTile, SyncFull, SetKeyGb, SetKeyR, SetConvert, SetScissor, SetPrimitiveDepth, SetOtherModes, LoadTlut, SetTileSize, LoadBlock, LoadTile, SetTile, FillRectangle, SetFillColor, SetFogColor, SetBlendColor, SetPrimitiveColor, SetEnvironmentColor, SetCombineMode, SetTextureImage, SetDepthImage, SetColorImage, Unassigned}
use Rattle.rdp_check.specs.declared.Register.{Register}
use Rattle.rdp_check.specs.declared.TileSize.{TileSize}
use Rattle.rdp_check.specs.declared.Tile.{Tile}
use Rattle.rdp_check.specs.declared.Colors.{Colors}
use Rattle.rdp_check.specs.declared.Combiner.{Combiner}
use Rattle.rdp_check.specs.declared.Modes.{Modes}
use Rattle.rdp_check.specs.declared.Images.{Images}
use Rattle.rdp_check.specs.declared.Registers.{Registers}

-- a register that is not set, and one that a command has set
abbrev pub unset : {A : Type 0} → A → Register A
unset v = record { set = false; value = v }

abbrev pub set_to : {A : Type 0} → A → Register A
set_to v = record { set = true; value = v }

-- the registers with one group of them, or one tile, replaced
abbrev pub with_colors : Registers → Colors → Registers
with_colors r g = record { colors = g; combiner = r.combiner; modes = r.modes; images = r.images; tiles = r.tiles }

abbrev pub with_combiner : Registers → Combiner → Registers
with_combiner r g = record { colors = r.colors; combiner = g; modes = r.modes; images = r.images; tiles = r.tiles }

abbrev pub with_modes : Registers → Modes → Registers
with_modes r g = record { colors = r.colors; combiner = r.combiner; modes = g; images = r.images; tiles = r.tiles }

abbrev pub with_images : Registers → Images → Registers
with_images r g = record { colors = r.colors; combiner = r.combiner; modes = r.modes; images = g; tiles = r.tiles }

abbrev pub with_tiles : Registers → List Tile → Registers
with_tiles r ts = record { colors = r.colors; combiner = r.combiner; modes = r.modes; images = r.images; tiles = ts }

-- the groups by their registers
abbrev pub colors_of : Register ℕ → Register Color → Register Color → Register PrimitiveColor → Register Color → Colors
colors_of a b c d e = record { fill = a; fog = b; blend = c; primitive = d; environment = e }

abbrev pub combiner_of : Register ℕ → Register KeyGb → Register KeyR → Register Convert → Combiner
combiner_of a b c d = record { combine = a; key_gb = b; key_r = c; convert = d }

abbrev pub modes_of : Register OtherModes → Register PrimitiveDepth → Register Scissor → Modes
modes_of a b c = record { other = a; depth = b; scissor = c }

abbrev pub images_of : Register Image → Register Image → Register ℕ → Images
images_of a b c = record { color = a; texture = b; depth = c }

-- ---- the start: zero and not set

abbrev pub no_color : Color
no_color = record { red = 0; green = 0; blue = 0; alpha = 0 }

abbrev pub no_color_register : Register Color
no_color_register = unset no_color

abbrev pub no_corner : TexelCorner
no_corner = record { s = 0; t = 0 }

abbrev pub no_image : Register Image
no_image = unset (record { format = 0; size = 0; width = 0; address = 0 })

abbrev pub no_other_modes : OtherModes
no_other_modes =
    record {
      atomic_prim = false;
      cycle_type = 0;
      texture =
          record {
            persp_tex_en = false;
            detail_tex_en = false;
            sharpen_tex_en = false;
            tex_lod_en = false;
            tlut_en = false;
            tlut_type = false;
            sample_type = false;
            mid_texel = false;
            bi_lerp_0 = false;
            bi_lerp_1 = false;
            convert_one = false;
          };
      key_en = false;
      rgb_dither_sel = 0;
      alpha_dither_sel = 0;
      blender =
          record {
            bl_m1a_0 = 0;
            bl_m1a_1 = 0;
            bl_m1b_0 = 0;
            bl_m1b_1 = 0;
            bl_m2a_0 = 0;
            bl_m2a_1 = 0;
            bl_m2b_0 = 0;
            bl_m2b_1 = 0;
          };
      pixel =
          record {
            force_blend = false;
            alpha_cvg_select = false;
            cvg_x_alpha = false;
            z_mode = 0;
            cvg_dest = 0;
            color_on_cvg = false;
            image_read_en = false;
            z_update_en = false;
            z_compare_en = false;
            antialias_en = false;
            z_source_sel = false;
            dither_alpha_en = false;
            alpha_compare_en = false;
          };
    }

abbrev pub no_descriptor : TileDescriptor
no_descriptor =
    record {
      format = 0;
      size = 0;
      line = 0;
      address = 0;
      index = 0;
      palette = 0;
      clamp_t = false;
      mirror_t = false;
      mask_t = 0;
      shift_t = 0;
      clamp_s = false;
      mirror_s = false;
      mask_s = 0;
      shift_s = 0;
    }

abbrev pub no_size : TileSize
no_size = record { upper_left = no_corner; lower_right = no_corner }

abbrev pub no_tile : Tile
no_tile = record { descriptor = unset no_descriptor; size = unset no_size }

abbrev pub no_colors : Colors
no_colors =
    colors_of (unset 0) no_color_register no_color_register (unset (record { min_level = 0; prim_lod_frac = 0; color = no_color })) no_color_register

abbrev pub no_combiner : Combiner
no_combiner =
    combiner_of (unset 0) (unset (record { width_g = 0; width_b = 0; center_g = 0; scale_g = 0; center_b = 0; scale_b = 0 }))
    (unset (record { width_r = 0; center_r = 0; scale_r = 0 }))
    (unset (record { k0 = 0; k1 = 0; k2 = 0; k3 = 0; k4 = 0; k5 = 0 }))

abbrev pub no_modes : Modes
no_modes =
    modes_of (unset no_other_modes) (unset (record { z = 0; dz = 0 }))
    (unset (record { upper_left = record { x = 0; y = 0 }; «field» = false; odd = false; lower_right = record { x = 0; y = 0 } }))

abbrev pub no_images : Images
no_images = images_of no_image no_image (unset 0)

unfoldable pub no_registers : Registers
no_registers = record { colors = no_colors; combiner = no_combiner; modes = no_modes; images = no_images; tiles = replicate 8 no_tile }

-- ---- after a command

-- a tile by its number, of which the low three bits count
abbrev pub tile_of : List Tile → ℕ → Tile
tile_of ts i = get_or ts (i % 8) no_tile

-- the tiles with one descriptor set, and with the size of one set
unfoldable pub described_tiles : List Tile → TileDescriptor → List Tile
described_tiles ts d = set ts (d.index % 8) (record { descriptor = set_to d; size = (tile_of ts d.index).size })

unfoldable pub sized_tiles : List Tile → ℕ → TexelCorner → TexelCorner → List Tile
sized_tiles ts i first last =
    set ts (i % 8) (record { descriptor = (tile_of ts i).descriptor; size = set_to (record { upper_left = first; lower_right = last }) })

-- the registers after a command: each Set command its own register; the loads their tile's size, as document 000 says of each; of a Load Block the
-- last value is dxt
unfoldable pub registers_after : Registers → Command → Registers
registers_after r (NoOperation n) = r
registers_after r (FillTriangle g) = r
registers_after r (TextureRectangle g) = r
registers_after r (TextureRectangleFlip g) = r
registers_after r SyncLoad = r
registers_after r SyncPipe = r
registers_after r SyncTile = r
registers_after r SyncFull = r
registers_after r (SetKeyGb g) = with_combiner r (combiner_of r.combiner.combine (set_to g) r.combiner.key_r r.combiner.convert)
registers_after r (SetKeyR g) = with_combiner r (combiner_of r.combiner.combine r.combiner.key_gb (set_to g) r.combiner.convert)
registers_after r (SetConvert g) = with_combiner r (combiner_of r.combiner.combine r.combiner.key_gb r.combiner.key_r (set_to g))
registers_after r (SetScissor g) = with_modes r (modes_of r.modes.other r.modes.depth (set_to g))
registers_after r (SetPrimitiveDepth g) = with_modes r (modes_of r.modes.other (set_to g) r.modes.scissor)
registers_after r (SetOtherModes g) = with_modes r (modes_of (set_to g) r.modes.depth r.modes.scissor)
registers_after r (LoadTlut g) = with_tiles r (sized_tiles r.tiles g.tile g.upper_left g.lower_right)
registers_after r (SetTileSize g) = with_tiles r (sized_tiles r.tiles g.tile g.upper_left g.lower_right)
registers_after r (LoadBlock g) = with_tiles r (sized_tiles r.tiles g.tile g.upper_left (record { s = g.lower_right_s; t = g.dxt }))
registers_after r (LoadTile g) = with_tiles r (sized_tiles r.tiles g.tile g.upper_left g.lower_right)
registers_after r (SetTile g) = with_tiles r (described_tiles r.tiles g)
registers_after r (FillRectangle g) = r
registers_after r (SetFillColor n) = with_colors r (colors_of (set_to n) r.colors.fog r.colors.blend r.colors.primitive r.colors.environment)
registers_after r (SetFogColor g) = with_colors r (colors_of r.colors.fill (set_to g) r.colors.blend r.colors.primitive r.colors.environment)
registers_after r (SetBlendColor g) = with_colors r (colors_of r.colors.fill r.colors.fog (set_to g) r.colors.primitive r.colors.environment)
registers_after r (SetPrimitiveColor g) = with_colors r (colors_of r.colors.fill r.colors.fog r.colors.blend (set_to g) r.colors.environment)
registers_after r (SetEnvironmentColor g) = with_colors r (colors_of r.colors.fill r.colors.fog r.colors.blend r.colors.primitive (set_to g))
registers_after r (SetCombineMode n) = with_combiner r (combiner_of (set_to n) r.combiner.key_gb r.combiner.key_r r.combiner.convert)
registers_after r (SetTextureImage g) = with_images r (images_of r.images.color (set_to g) r.images.depth)
registers_after r (SetDepthImage n) = with_images r (images_of r.images.color r.images.texture (set_to n))
registers_after r (SetColorImage g) = with_images r (images_of (set_to g) r.images.texture r.images.depth)
registers_after r (Unassigned n) = r

-- after what decoding answers
abbrev pub after_decoded : Registers → Decoded → Registers
after_decoded r (Whole c) = registers_after r c
after_decoded r (Refused a) = r
