use Prim.Native.Nat.{ℕ, ◌/◌}
use mathlib.Core.List.{List, [], ◌∷◌}
use mathlib.Core.Path.{ap, refl, ◌∙◌}
use borrow.Author.Tests.{ne_eqb}
use Rattle.rdp_command.specs.Layout.{layout}
use Rattle.rdp_command.specs.Commands.{command_of}
use Rattle.rdp_command.specs.declared.Command.TheVariants.{FillTriangle, TextureRectangle, TextureRectangleFlip, SetKeyGb, SetKeyR, SetConvert, SetScissor, SetPrimitiveDepth, SetOtherModes, LoadTlut, SetTileSize, LoadBlock, LoadTile, SetTile, FillRectangle, SetFillColor, SetFogColor, SetBlendColor, SetPrimitiveColor, SetEnvironmentColor, SetCombineMode, SetTextureImage, SetDepthImage, SetColorImage, NoOperation}
use Rattle.rdp_command.specs.declared.Base.{Base}
use Rattle.rdp_command.proofs.CommandLaws.{at-number, at-triangle}
use Rattle.rdp_command.proofs.decoding.command_in.Goals as goal

abbrev words : Base → List ℕ
words b = b.w0 ∷ b.w1 ∷ b.w2 ∷ b.w3 ∷ []

pub returns-then-number-eq1 : goal.returns-then-number-eq1
returns-then-number-eq1 c = ap FillTriangle c.triangle_base.ensures ∙ at-triangle c.args.base.number (words c.args.base) c.if-number-eq1.true

pub returns-in-36 : goal.returns-in-36
unfolding command_of layout
returns-in-36 c = at-number (words c.args.base) c.in-36.is (ap TextureRectangle c.textured_rectangle.ensures)

pub returns-in-37 : goal.returns-in-37
unfolding command_of layout
returns-in-37 c = at-number (words c.args.base) c.in-37.is (ap TextureRectangleFlip c.textured_rectangle-in-37.ensures)

pub returns-in-38 : goal.returns-in-38
unfolding command_of layout
returns-in-38 c = at-number (words c.args.base) c.in-38.is refl

pub returns-in-39 : goal.returns-in-39
unfolding command_of layout
returns-in-39 c = at-number (words c.args.base) c.in-39.is refl

pub returns-in-40 : goal.returns-in-40
unfolding command_of layout
returns-in-40 c = at-number (words c.args.base) c.in-40.is refl

pub returns-in-41 : goal.returns-in-41
unfolding command_of layout
returns-in-41 c = at-number (words c.args.base) c.in-41.is refl

pub returns-in-42 : goal.returns-in-42
unfolding command_of layout
returns-in-42 c = at-number (words c.args.base) c.in-42.is (ap SetKeyGb c.key_gb.ensures)

pub returns-in-43 : goal.returns-in-43
unfolding command_of layout
returns-in-43 c = at-number (words c.args.base) c.in-43.is (ap SetKeyR c.key_r.ensures)

pub returns-in-44 : goal.returns-in-44
unfolding command_of layout
returns-in-44 c = at-number (words c.args.base) c.in-44.is (ap SetConvert c.convert.ensures)

pub returns-in-45 : goal.returns-in-45
unfolding command_of layout
returns-in-45 c = at-number (words c.args.base) c.in-45.is (ap SetScissor c.scissor.ensures)

pub returns-in-46 : goal.returns-in-46
unfolding command_of layout
returns-in-46 c = at-number (words c.args.base) c.in-46.is (ap SetPrimitiveDepth c.primitive_depth.ensures)

pub returns-in-47 : goal.returns-in-47
unfolding command_of layout
returns-in-47 c = at-number (words c.args.base) c.in-47.is (ap SetOtherModes c.other_modes.ensures)

pub returns-in-48 : goal.returns-in-48
unfolding command_of layout
returns-in-48 c = at-number (words c.args.base) c.in-48.is (ap LoadTlut c.tile_area.ensures)

pub returns-in-50 : goal.returns-in-50
unfolding command_of layout
returns-in-50 c = at-number (words c.args.base) c.in-50.is (ap SetTileSize c.tile_area-in-50.ensures)

pub returns-in-51 : goal.returns-in-51
unfolding command_of layout
returns-in-51 c = at-number (words c.args.base) c.in-51.is (ap LoadBlock c.block.ensures)

pub returns-in-52 : goal.returns-in-52
unfolding command_of layout
returns-in-52 c = at-number (words c.args.base) c.in-52.is (ap LoadTile c.tile_area-in-52.ensures)

pub returns-in-53 : goal.returns-in-53
unfolding command_of layout
returns-in-53 c = at-number (words c.args.base) c.in-53.is (ap SetTile c.tile_descriptor.ensures)

pub returns-in-54 : goal.returns-in-54
unfolding command_of layout
returns-in-54 c = at-number (words c.args.base) c.in-54.is (ap FillRectangle c.rectangle.ensures)

pub returns-in-55 : goal.returns-in-55
unfolding command_of layout
returns-in-55 c = at-number (words c.args.base) c.in-55.is (ap SetFillColor c.fill_color.ensures)

pub returns-in-56 : goal.returns-in-56
unfolding command_of layout
returns-in-56 c = at-number (words c.args.base) c.in-56.is (ap SetFogColor c.color.ensures)

pub returns-in-57 : goal.returns-in-57
unfolding command_of layout
returns-in-57 c = at-number (words c.args.base) c.in-57.is (ap SetBlendColor c.color-in-57.ensures)

pub returns-in-58 : goal.returns-in-58
unfolding command_of layout
returns-in-58 c = at-number (words c.args.base) c.in-58.is (ap SetPrimitiveColor c.primitive_color.ensures)

pub returns-in-59 : goal.returns-in-59
unfolding command_of layout
returns-in-59 c = at-number (words c.args.base) c.in-59.is (ap SetEnvironmentColor c.color-in-59.ensures)

pub returns-in-60 : goal.returns-in-60
unfolding command_of layout
returns-in-60 c = at-number (words c.args.base) c.in-60.is (ap SetCombineMode c.combine_mode.ensures)

pub returns-in-61 : goal.returns-in-61
unfolding command_of layout
returns-in-61 c = at-number (words c.args.base) c.in-61.is (ap SetTextureImage c.image.ensures)

pub returns-in-62 : goal.returns-in-62
unfolding command_of layout
returns-in-62 c = at-number (words c.args.base) c.in-62.is (ap SetDepthImage c.depth_image.ensures)

pub returns-in-63 : goal.returns-in-63
unfolding command_of layout
returns-in-63 c = at-number (words c.args.base) c.in-63.is (ap SetColorImage c.color_image.ensures)

pub returns-in-0 : goal.returns-in-0
unfolding command_of
returns-in-0 c = at-number (words c.args.base) c.in-0.is (ap NoOperation c.in-0.is)

pub returns-in_default : goal.returns-in_default
unfolding command_of
returns-in_default c =
    let n = c.args.base.number in
    simp (
      ne_eqb (n / 8) 1 c.if-number-eq1.false,
      ne_eqb n 0x24 c.in_default.in_default-own.rest.0.0.0.0.0.0.0.0.0.0.0.0.0.0.0.0.0.0.0.0.0.0.0.0.0.0.0.1,
      ne_eqb n 0x25 c.in_default.in_default-own.rest.0.0.0.0.0.0.0.0.0.0.0.0.0.0.0.0.0.0.0.0.0.0.0.0.0.0.1,
      ne_eqb n 0x26 c.in_default.in_default-own.rest.0.0.0.0.0.0.0.0.0.0.0.0.0.0.0.0.0.0.0.0.0.0.0.0.0.1,
      ne_eqb n 0x27 c.in_default.in_default-own.rest.0.0.0.0.0.0.0.0.0.0.0.0.0.0.0.0.0.0.0.0.0.0.0.0.1,
      ne_eqb n 0x28 c.in_default.in_default-own.rest.0.0.0.0.0.0.0.0.0.0.0.0.0.0.0.0.0.0.0.0.0.0.0.1,
      ne_eqb n 0x29 c.in_default.in_default-own.rest.0.0.0.0.0.0.0.0.0.0.0.0.0.0.0.0.0.0.0.0.0.0.1,
      ne_eqb n 0x2A c.in_default.in_default-own.rest.0.0.0.0.0.0.0.0.0.0.0.0.0.0.0.0.0.0.0.0.0.1,
      ne_eqb n 0x2B c.in_default.in_default-own.rest.0.0.0.0.0.0.0.0.0.0.0.0.0.0.0.0.0.0.0.0.1,
      ne_eqb n 0x2C c.in_default.in_default-own.rest.0.0.0.0.0.0.0.0.0.0.0.0.0.0.0.0.0.0.0.1,
      ne_eqb n 0x2D c.in_default.in_default-own.rest.0.0.0.0.0.0.0.0.0.0.0.0.0.0.0.0.0.0.1,
      ne_eqb n 0x2E c.in_default.in_default-own.rest.0.0.0.0.0.0.0.0.0.0.0.0.0.0.0.0.0.1,
      ne_eqb n 0x2F c.in_default.in_default-own.rest.0.0.0.0.0.0.0.0.0.0.0.0.0.0.0.0.1,
      ne_eqb n 0x30 c.in_default.in_default-own.rest.0.0.0.0.0.0.0.0.0.0.0.0.0.0.0.1,
      ne_eqb n 0x32 c.in_default.in_default-own.rest.0.0.0.0.0.0.0.0.0.0.0.0.0.0.1,
      ne_eqb n 0x33 c.in_default.in_default-own.rest.0.0.0.0.0.0.0.0.0.0.0.0.0.1,
      ne_eqb n 0x34 c.in_default.in_default-own.rest.0.0.0.0.0.0.0.0.0.0.0.0.1,
      ne_eqb n 0x35 c.in_default.in_default-own.rest.0.0.0.0.0.0.0.0.0.0.0.1,
      ne_eqb n 0x36 c.in_default.in_default-own.rest.0.0.0.0.0.0.0.0.0.0.1,
      ne_eqb n 0x37 c.in_default.in_default-own.rest.0.0.0.0.0.0.0.0.0.1,
      ne_eqb n 0x38 c.in_default.in_default-own.rest.0.0.0.0.0.0.0.0.1,
      ne_eqb n 0x39 c.in_default.in_default-own.rest.0.0.0.0.0.0.0.1,
      ne_eqb n 0x3A c.in_default.in_default-own.rest.0.0.0.0.0.0.1,
      ne_eqb n 0x3B c.in_default.in_default-own.rest.0.0.0.0.0.1,
      ne_eqb n 0x3C c.in_default.in_default-own.rest.0.0.0.0.1,
      ne_eqb n 0x3D c.in_default.in_default-own.rest.0.0.0.1,
      ne_eqb n 0x3E c.in_default.in_default-own.rest.0.0.1,
      ne_eqb n 0x3F c.in_default.in_default-own.rest.0.1,
      ne_eqb n 0x00 c.in_default.in_default-own.rest.1,
    )
