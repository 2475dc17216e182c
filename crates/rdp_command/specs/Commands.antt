-- A command by its number and the values of its fields, and the number and the values of a command.
use Rattle.std.specs.Prelude.{cond, List, [], ◌∷◌, ℕ, ◌+◌, ◌*◌, ◌/◌, eqb}
use mir.Val.{bool_byte}
use Rattle.rdp_command.specs.Fields.{Value, unsigned}
use Rattle.rdp_command.specs.Groups.{nat_at, triangle_base_of, triangle_base_values, textured_rectangle_of, textured_rectangle_values, key_gb_of, key_gb_values, key_r_of, key_r_values, convert_of, convert_values, scissor_of, scissor_values, primitive_depth_of, primitive_depth_values, other_modes_of, other_modes_values, tile_area_of, tile_area_values, block_of, block_values, tile_descriptor_of, tile_descriptor_values, rectangle_of, rectangle_values, color_of, color_values, primitive_color_of, primitive_color_values, image_of, image_values}
use Rattle.rdp_command.specs.declared.Command.{Command}
use Rattle.rdp_command.specs.declared.Command.TheVariants.{NoOperation, FillTriangle, TextureRectangle, TextureRectangleFlip, SyncLoad, SyncPipe, SyncTile, SyncFull, SetKeyGb, SetKeyR, SetConvert, SetScissor, SetPrimitiveDepth, SetOtherModes, LoadTlut, SetTileSize, LoadBlock, LoadTile, SetTile, FillRectangle, SetFillColor, SetFogColor, SetBlendColor, SetPrimitiveColor, SetEnvironmentColor, SetCombineMode, SetTextureImage, SetDepthImage, SetColorImage, Unassigned}

-- the command of a number from the values of its fields; a number with no name of its own is unassigned (#107)
unfoldable pub command_of : ℕ → List Value → Command
command_of n vs =
    cond (eqb (n / 8) 1) (FillTriangle (triangle_base_of vs))
    (cond (eqb n 0x24) (TextureRectangle (textured_rectangle_of vs))
    (cond (eqb n 0x25) (TextureRectangleFlip (textured_rectangle_of vs))
    (cond (eqb n 0x26) SyncLoad
    (cond (eqb n 0x27) SyncPipe
    (cond (eqb n 0x28) SyncTile
    (cond (eqb n 0x29) SyncFull
    (cond (eqb n 0x2A) (SetKeyGb (key_gb_of vs))
    (cond (eqb n 0x2B) (SetKeyR (key_r_of vs))
    (cond (eqb n 0x2C) (SetConvert (convert_of vs))
    (cond (eqb n 0x2D) (SetScissor (scissor_of vs))
    (cond (eqb n 0x2E) (SetPrimitiveDepth (primitive_depth_of vs))
    (cond (eqb n 0x2F) (SetOtherModes (other_modes_of vs))
    (cond (eqb n 0x30) (LoadTlut (tile_area_of vs))
    (cond (eqb n 0x32) (SetTileSize (tile_area_of vs))
    (cond (eqb n 0x33) (LoadBlock (block_of vs))
    (cond (eqb n 0x34) (LoadTile (tile_area_of vs))
    (cond (eqb n 0x35) (SetTile (tile_descriptor_of vs))
    (cond (eqb n 0x36) (FillRectangle (rectangle_of vs))
    (cond (eqb n 0x37) (SetFillColor (nat_at vs 0))
    (cond (eqb n 0x38) (SetFogColor (color_of vs))
    (cond (eqb n 0x39) (SetBlendColor (color_of vs))
    (cond (eqb n 0x3A) (SetPrimitiveColor (primitive_color_of vs))
    (cond (eqb n 0x3B) (SetEnvironmentColor (color_of vs))
    (cond (eqb n 0x3C) (SetCombineMode (nat_at vs 0))
    (cond (eqb n 0x3D) (SetTextureImage (image_of vs))
    (cond (eqb n 0x3E) (SetDepthImage (nat_at vs 0))
    (cond (eqb n 0x3F) (SetColorImage (image_of vs))
    (cond (eqb n 0x00) (NoOperation n)
    (Unassigned n)))))))))))))))))))))))))))))

-- the values of a command's fields, in the order of its bit lines
abbrev pub values_of : Command → List Value
values_of (NoOperation n) = []
values_of (FillTriangle g) = triangle_base_values g
values_of (TextureRectangle g) = textured_rectangle_values g
values_of (TextureRectangleFlip g) = textured_rectangle_values g
values_of SyncLoad = []
values_of SyncPipe = []
values_of SyncTile = []
values_of SyncFull = []
values_of (SetKeyGb g) = key_gb_values g
values_of (SetKeyR g) = key_r_values g
values_of (SetConvert g) = convert_values g
values_of (SetScissor g) = scissor_values g
values_of (SetPrimitiveDepth g) = primitive_depth_values g
values_of (SetOtherModes g) = other_modes_values g
values_of (LoadTlut g) = tile_area_values g
values_of (SetTileSize g) = tile_area_values g
values_of (LoadBlock g) = block_values g
values_of (LoadTile g) = tile_area_values g
values_of (SetTile g) = tile_descriptor_values g
values_of (FillRectangle g) = rectangle_values g
values_of (SetFillColor n) = unsigned n ∷ []
values_of (SetFogColor g) = color_values g
values_of (SetBlendColor g) = color_values g
values_of (SetPrimitiveColor g) = primitive_color_values g
values_of (SetEnvironmentColor g) = color_values g
values_of (SetCombineMode n) = unsigned n ∷ []
values_of (SetTextureImage g) = image_values g
values_of (SetDepthImage n) = unsigned n ∷ []
values_of (SetColorImage g) = image_values g
values_of (Unassigned n) = []

-- the number of a command; a triangle's flags are its low three bits
abbrev pub number_of : Command → ℕ
number_of (NoOperation n) = n
number_of (FillTriangle g) = 0x08 + bool_byte g.shade * 4 + bool_byte g.texture * 2 + bool_byte g.zbuffer
number_of (TextureRectangle g) = 0x24
number_of (TextureRectangleFlip g) = 0x25
number_of SyncLoad = 0x26
number_of SyncPipe = 0x27
number_of SyncTile = 0x28
number_of SyncFull = 0x29
number_of (SetKeyGb g) = 0x2A
number_of (SetKeyR g) = 0x2B
number_of (SetConvert g) = 0x2C
number_of (SetScissor g) = 0x2D
number_of (SetPrimitiveDepth g) = 0x2E
number_of (SetOtherModes g) = 0x2F
number_of (LoadTlut g) = 0x30
number_of (SetTileSize g) = 0x32
number_of (LoadBlock g) = 0x33
number_of (LoadTile g) = 0x34
number_of (SetTile g) = 0x35
number_of (FillRectangle g) = 0x36
number_of (SetFillColor n) = 0x37
number_of (SetFogColor g) = 0x38
number_of (SetBlendColor g) = 0x39
number_of (SetPrimitiveColor g) = 0x3A
number_of (SetEnvironmentColor g) = 0x3B
number_of (SetCombineMode n) = 0x3C
number_of (SetTextureImage g) = 0x3D
number_of (SetDepthImage n) = 0x3E
number_of (SetColorImage g) = 0x3F
number_of (Unassigned n) = n
