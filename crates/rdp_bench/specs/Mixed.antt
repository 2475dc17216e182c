-- The registers as one number.
use Rattle.std.specs.Prelude.{ℕ, ◌+◌, ◌*◌, ◌/◌, ◌%◌, ◌^◌, Bool, false, List, [], ◌∷◌}
use Rattle.std.specs.List.{fold}
use Rattle.std.specs.Int.Bits.{bit_or, bit_xor}
use Rattle.std.specs.Int.{from_bool}
use Rattle.rdp_command.specs.declared.Color.{Color}
use Rattle.rdp_command.specs.declared.PrimitiveColor.{PrimitiveColor}
use Rattle.rdp_command.specs.declared.KeyGb.{KeyGb}
use Rattle.rdp_command.specs.declared.KeyR.{KeyR}
use Rattle.rdp_command.specs.declared.Convert.{Convert}
use Rattle.rdp_command.specs.declared.OtherModes.{OtherModes}
use Rattle.rdp_command.specs.declared.PrimitiveDepth.{PrimitiveDepth}
use Rattle.rdp_command.specs.declared.Scissor.{Scissor}
use Rattle.rdp_command.specs.declared.Image.{Image}
use Rattle.rdp_command.specs.declared.TileDescriptor.{TileDescriptor}
use Rattle.rdp_command.specs.declared.TextureModes.{TextureModes}
use Rattle.rdp_command.specs.declared.BlenderInputs.{BlenderInputs}
use Rattle.rdp_command.specs.declared.PixelModes.{PixelModes}
use Rattle.rdp_check.specs.declared.Register.{Register}
use Rattle.rdp_check.specs.declared.Tile.{Tile}
use Rattle.rdp_check.specs.declared.Colors.{Colors}
use Rattle.rdp_check.specs.declared.Combiner.{Combiner}
use Rattle.rdp_check.specs.declared.Modes.{Modes}
use Rattle.rdp_check.specs.declared.Images.{Images}
use Rattle.rdp_state.specs.After.{ListState}

-- ---- numbers into one

-- values side by side, so many bits apart: the first, and the others from a bit on
abbrev pub laid : ℕ → ℕ → ℕ → List ℕ → ℕ
laid apart low first [] = first
laid apart low first (v ∷ vs) = laid apart (low + apart) (bit_xor first (v * 2 ^ low % 2 ^ 64)) vs

abbrev pub rotated : ℕ → ℕ → ℕ → ℕ
rotated left right x = bit_or (x * 2 ^ left % 2 ^ 64) (x / 2 ^ right)

-- five numbers, each turned by thirteen bits more than the one before
unfoldable pub mixed_five : ℕ → ℕ → ℕ → ℕ → ℕ → ℕ
mixed_five a b c d e = bit_xor (bit_xor (bit_xor (bit_xor a (rotated 13 51 b)) (rotated 26 38 c)) (rotated 39 25 d)) (rotated 52 12 e)

abbrev pub mixed_flag : Bool → ℕ
mixed_flag a = from_bool a

abbrev pub mixed_bits : Bool → Bool → Bool → Bool → ℕ
mixed_bits a b c d = laid 1 1 (from_bool a) (from_bool b ∷ from_bool c ∷ from_bool d ∷ [])

abbrev pub mixed_bytes : ℕ → ℕ → ℕ → ℕ → ℕ
mixed_bytes a b c d = laid 8 8 a (b ∷ c ∷ d ∷ [])

abbrev pub mixed_halves : ℕ → ℕ → ℕ → ℕ → ℕ
mixed_halves a b c d = laid 16 16 a (b ∷ c ∷ d ∷ [])

-- ---- the registers, their groups and the tiles

-- a register of one number
abbrev pub mixed_number : Bool → ℕ → ℕ
mixed_number set value = laid 8 8 (from_bool set) (value ∷ [])

abbrev pub mixed_image : Register Image → ℕ
mixed_image g = laid 9 9 (from_bool g.set) (g.value.format ∷ g.value.size ∷ g.value.width ∷ g.value.address ∷ [])

abbrev pub mixed_color : Register Color → ℕ
mixed_color g = mixed_five (mixed_flag g.set) (mixed_bytes g.value.red g.value.green g.value.blue g.value.alpha) 0 0 0

abbrev pub mixed_primitive_color : Register PrimitiveColor → ℕ
mixed_primitive_color g =
    mixed_five
    (mixed_flag g.set)
    (mixed_bytes g.value.min_level g.value.prim_lod_frac 0 0)
    (mixed_bytes g.value.color.red g.value.color.green g.value.color.blue g.value.color.alpha)
    0
    0

abbrev pub mixed_colors : Colors → ℕ
mixed_colors g = mixed_five (mixed_number g.fill.set g.fill.value) (mixed_color g.fog) (mixed_color g.blend) (mixed_primitive_color g.primitive) (mixed_color g.environment)

abbrev pub mixed_key_gb : Register KeyGb → ℕ
mixed_key_gb g =
    mixed_five
    (mixed_flag g.set)
    (mixed_halves g.value.width_g g.value.width_b 0 0)
    (mixed_bytes g.value.center_g g.value.scale_g g.value.center_b g.value.scale_b)
    0
    0

abbrev pub mixed_key_r : Register KeyR → ℕ
mixed_key_r g = mixed_five (mixed_flag g.set) (mixed_halves g.value.width_r 0 0 0) (mixed_bytes g.value.center_r g.value.scale_r 0 0) 0 0

abbrev pub mixed_convert : Register Convert → ℕ
mixed_convert g =
    mixed_five
    (mixed_flag g.set)
    (mixed_halves g.value.k0 g.value.k1 g.value.k2 g.value.k3)
    (mixed_halves g.value.k4 g.value.k5 0 0)
    0
    0

abbrev pub mixed_combiner : Combiner → ℕ
mixed_combiner g = mixed_five (mixed_number g.combine.set g.combine.value) (mixed_key_gb g.key_gb) (mixed_key_r g.key_r) (mixed_convert g.convert) 0

abbrev pub mixed_texture_modes : TextureModes → ℕ
mixed_texture_modes m =
    mixed_five
    (mixed_bits m.persp_tex_en m.detail_tex_en m.sharpen_tex_en m.tex_lod_en)
    (mixed_bits m.tlut_en m.tlut_type m.sample_type m.mid_texel)
    (mixed_bits m.bi_lerp_0 m.bi_lerp_1 m.convert_one false)
    0
    0

abbrev pub mixed_blender_inputs : BlenderInputs → ℕ
mixed_blender_inputs m =
    mixed_five
    (mixed_bytes m.bl_m1a_0 m.bl_m1a_1 m.bl_m1b_0 m.bl_m1b_1)
    (mixed_bytes m.bl_m2a_0 m.bl_m2a_1 m.bl_m2b_0 m.bl_m2b_1)
    0
    0
    0

abbrev pub mixed_pixel_modes : PixelModes → ℕ
mixed_pixel_modes m =
    mixed_five
    (mixed_bits m.force_blend m.alpha_cvg_select m.cvg_x_alpha m.color_on_cvg)
    (mixed_bits m.image_read_en m.z_update_en m.z_compare_en m.antialias_en)
    (mixed_bits m.z_source_sel m.dither_alpha_en m.alpha_compare_en false)
    (mixed_bytes m.z_mode m.cvg_dest 0 0)
    0

abbrev pub mixed_other_modes : Register OtherModes → ℕ
mixed_other_modes g =
    mixed_five
    (mixed_bits g.set g.value.atomic_prim g.value.key_en false)
    (mixed_bytes g.value.cycle_type g.value.rgb_dither_sel g.value.alpha_dither_sel 0)
    (mixed_texture_modes g.value.texture)
    (mixed_blender_inputs g.value.blender)
    (mixed_pixel_modes g.value.pixel)

abbrev pub mixed_depth : Register PrimitiveDepth → ℕ
mixed_depth g = mixed_five (mixed_flag g.set) (mixed_halves g.value.z g.value.dz 0 0) 0 0 0

abbrev pub mixed_scissor : Register Scissor → ℕ
mixed_scissor g =
    mixed_five
    (mixed_bits g.set g.value.field g.value.odd false)
    (mixed_halves g.value.upper_left.x g.value.upper_left.y g.value.lower_right.x g.value.lower_right.y)
    0
    0
    0

abbrev pub mixed_modes : Modes → ℕ
mixed_modes g = mixed_five (mixed_other_modes g.other) (mixed_depth g.depth) (mixed_scissor g.scissor) 0 0

abbrev pub mixed_images : Images → ℕ
mixed_images g = mixed_five (mixed_image g.color) (mixed_image g.texture) (mixed_number g.depth.set g.depth.value) 0 0

abbrev pub mixed_descriptor : TileDescriptor → ℕ
mixed_descriptor d =
    mixed_five
    (mixed_bytes d.format d.size d.index d.palette)
    (mixed_halves d.line d.address 0 0)
    (mixed_bits d.clamp_t d.mirror_t d.clamp_s d.mirror_s)
    (mixed_bytes d.mask_t d.shift_t d.mask_s d.shift_s)
    0

abbrev pub mixed_tile : ℕ → Tile → ℕ
mixed_tile h t =
    mixed_five
    (mixed_bits t.descriptor.set t.size.set false false)
    (mixed_descriptor t.descriptor.value)
    (mixed_halves t.size.value.upper_left.s t.size.value.upper_left.t t.size.value.lower_right.s t.size.value.lower_right.t)
    h
    0

abbrev pub mixed_tiles : ℕ → List Tile → ℕ
mixed_tiles h ts = fold mixed_tile h ts

-- ---- the state after a list

abbrev pub mixed_answer : ℕ → ℕ → ℕ
mixed_answer number place = laid 32 32 number (place ∷ [])

abbrev pub mixed_of : ListState → ℕ
mixed_of s =
    mixed_five (bit_xor (mixed_answer s.number s.place) (mixed_tiles 0 s.registers.tiles)) (mixed_colors s.registers.colors) (mixed_combiner s.registers.combiner)
    (mixed_modes s.registers.modes)
    (mixed_images s.registers.images)
