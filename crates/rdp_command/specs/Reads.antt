-- What the check, the registers and the drawing read of words, without decoding a command. Each takes a word for the first word of its command.
use Rattle.std.specs.Prelude.{not, List, [], ◌∷◌, ℕ, eqb}
use Rattle.rdp_words.specs.Words.{number_in}
use Rattle.rdp_command.specs.Layout.{Line, textured_rectangle_lines, key_gb_lines, key_r_lines, convert_lines, scissor_lines, primitive_depth_lines, other_modes_lines, tile_area_lines, block_lines, tile_descriptor_lines, rectangle_lines, fill_color_lines, color_lines, primitive_color_lines, combine_mode_lines, image_lines, depth_image_lines, color_image_lines}
use Rattle.rdp_command.specs.Fields.{Value, fields_of}
use Rattle.rdp_command.specs.Groups.{nat_at, textured_rectangle_of, key_gb_of, key_r_of, convert_of, scissor_of, primitive_depth_of, other_modes_of, tile_area_of, block_of, tile_descriptor_of, rectangle_of, color_of, primitive_color_of, image_of}
use Rattle.rdp_command.specs.declared.OtherModes.{OtherModes}
use Rattle.rdp_command.specs.declared.Scissor.{Scissor}
use Rattle.rdp_command.specs.declared.Rectangle.{Rectangle}
use Rattle.rdp_command.specs.declared.Image.{Image}
use Rattle.rdp_command.specs.declared.Head.{Head}
use Rattle.rdp_command.specs.declared.FillWords.{FillWords}
use Rattle.rdp_command.specs.declared.FillFields.{FillFields}
use Rattle.rdp_command.specs.declared.TexturedRectangle.{TexturedRectangle}
use Rattle.rdp_command.specs.declared.TileDescriptor.{TileDescriptor}
use Rattle.rdp_command.specs.declared.TileArea.{TileArea}
use Rattle.rdp_command.specs.declared.Block.{Block}
use Rattle.rdp_command.specs.declared.LoadWords.{LoadWords}
use Rattle.rdp_command.specs.declared.LoadFields.{LoadFields}
use Rattle.rdp_command.specs.declared.CopyWords.{CopyWords}
use Rattle.rdp_command.specs.declared.CopyFields.{CopyFields}
use Rattle.rdp_command.specs.declared.RegisterWords.{RegisterWords}
use Rattle.rdp_command.specs.declared.ColorFields.{ColorFields}
use Rattle.rdp_command.specs.declared.CombinerFields.{CombinerFields}
use Rattle.rdp_command.specs.declared.ModeFields.{ModeFields}
use Rattle.rdp_command.specs.declared.ImageFields.{ImageFields}
use Rattle.rdp_command.specs.declared.RegisterFields.{RegisterFields}
use Rattle.rdp_command.specs.declared.TileFields.{TileFields}

-- the fields of a command of one word
abbrev pub fields_in : List Line → ℕ → List Value
fields_in ls w = fields_of ls (w ∷ [])

-- the modes of a Set Other Modes, and their cycle type
abbrev pub other_modes_in : ℕ → OtherModes
other_modes_in w = other_modes_of (fields_in other_modes_lines w)

abbrev pub cycle_type_in : ℕ → ℕ
cycle_type_in w = (other_modes_in w).cycle_type

-- the scissor of a Set Scissor
abbrev pub scissor_in : ℕ → Scissor
scissor_in w = scissor_of (fields_in scissor_lines w)

-- the rectangle of a Fill Rectangle
abbrev pub rectangle_in : ℕ → Rectangle
rectangle_in w = rectangle_of (fields_in rectangle_lines w)

-- the colour of a Set Fill Color
abbrev pub fill_color_in : ℕ → ℕ
fill_color_in w = nat_at (fields_in fill_color_lines w) 0

-- the image of a Set Color Image
abbrev pub color_image_in : ℕ → Image
color_image_in w = image_of (fields_in color_image_lines w)

-- ---- the check

-- what the check reads of a word
abbrev pub head_of : ℕ → Head
head_of w = record { number = number_in w; cycle_type = cycle_type_in w; image_size = (color_image_in w).size }

-- ---- the drawing

-- a fill rectangle by its word, with the fields of the words that set what it is drawn under
abbrev pub fill_fields : FillWords → ℕ → FillFields
fill_fields set w =
    record {
      cycle_type = cycle_type_in set.modes;
      rectangle = rectangle_in w;
      scissor = scissor_in set.scissor;
      image = color_image_in set.image;
      color = fill_color_in set.color;
    }

-- the image of a Set Texture Image
abbrev pub texture_image_in : ℕ → Image
texture_image_in w = image_of (fields_in image_lines w)

-- the descriptor of a Set Tile, and the area of a Load Tile, or of a Set Tile Size
abbrev pub tile_descriptor_in : ℕ → TileDescriptor
tile_descriptor_in w = tile_descriptor_of (fields_in tile_descriptor_lines w)

abbrev pub tile_area_in : ℕ → TileArea
tile_area_in w = tile_area_of (fields_in tile_area_lines w)

-- the texels of a Load Block
abbrev pub block_in : ℕ → Block
block_in w = block_of (fields_in block_lines w)

-- the rectangle of a Texture Rectangle, by its two words
abbrev pub textured_rectangle_in : ℕ → ℕ → TexturedRectangle
textured_rectangle_in w v = textured_rectangle_of (fields_of textured_rectangle_lines (w ∷ v ∷ []))

-- a Load Tile or a Load Block, whose dxt stands as lower right t, by its word, with the fields of the words that set what it is done under; a register is
-- set where its word is not 0
abbrev pub load_fields : LoadWords → ℕ → LoadFields
load_fields set w =
    record {
      image_set = not (eqb set.image 0);
      image = texture_image_in set.image;
      tile_set = not (eqb set.tile 0);
      tile = tile_descriptor_in set.tile;
      area = tile_area_in w;
    }

-- a texture rectangle by its two words, with the fields of the words that set what it is drawn under
abbrev pub copy_fields : CopyWords → ℕ → ℕ → CopyFields
copy_fields set w v =
    record {
      cycle_type = cycle_type_in set.modes;
      rectangle = textured_rectangle_in w v;
      tile_set = not (eqb set.tile 0);
      tile = tile_descriptor_in set.tile;
      tile_corner = (tile_area_in set.size).upper_left;
      scissor = scissor_in set.scissor;
      image = color_image_in set.image;
      perspective = (other_modes_in set.modes).texture.persp_tex_en;
      lookup = (other_modes_in set.modes).texture.tlut_en;
      alpha_compare = (other_modes_in set.modes).pixel.alpha_compare_en;
    }

-- ---- the registers, from the words that set them

abbrev pub color_fields : RegisterWords → ColorFields
color_fields ws =
    record {
      fill = fill_color_in ws.fill_color;
      fog = color_of (fields_in color_lines ws.fog_color);
      blend = color_of (fields_in color_lines ws.blend_color);
      primitive = primitive_color_of (fields_in primitive_color_lines ws.primitive_color);
      environment = color_of (fields_in color_lines ws.environment_color);
    }

abbrev pub combiner_fields : RegisterWords → CombinerFields
combiner_fields ws =
    record {
      combine = nat_at (fields_in combine_mode_lines ws.combine_mode) 0;
      key_gb = key_gb_of (fields_in key_gb_lines ws.key_gb);
      key_r = key_r_of (fields_in key_r_lines ws.key_r);
      convert = convert_of (fields_in convert_lines ws.convert);
    }

abbrev pub mode_fields : RegisterWords → ModeFields
mode_fields ws =
    record {
      other = other_modes_in ws.other_modes;
      depth = primitive_depth_of (fields_in primitive_depth_lines ws.primitive_depth);
      scissor = scissor_in ws.scissor;
    }

abbrev pub image_fields : RegisterWords → ImageFields
image_fields ws =
    record {
      color = color_image_in ws.color_image;
      texture = texture_image_in ws.texture_image;
      depth = nat_at (fields_in depth_image_lines ws.depth_image) 0;
    }

-- all registers but the tiles
abbrev pub register_fields : RegisterWords → RegisterFields
register_fields ws = record { colors = color_fields ws; combiner = combiner_fields ws; modes = mode_fields ws; images = image_fields ws }

-- a tile, from the words that set its descriptor and its size
abbrev pub tile_fields : ℕ → ℕ → TileFields
tile_fields descriptor size = record { descriptor = tile_descriptor_in descriptor; area = tile_area_in size }
