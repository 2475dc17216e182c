-- Document 02, #106: a texture rectangle in COPY mode. What it needs, and its kept pixels in order.
use Rattle.std.specs.Prelude.{ℕ, ◌+◌, ◌/◌, ◌%◌, Bool, not, cond, ◌&&◌, List, [], ◌∷◌, eqb, ℤ}
use Rattle.rdp_command.specs.declared.TextureStep.{TextureStep}
use Rattle.rdp_command.specs.declared.TexelCorner.{TexelCorner}
use Rattle.rdp_command.specs.declared.TileDescriptor.{TileDescriptor}
use Rattle.rdp_command.specs.declared.CopyFields.{CopyFields}
use Rattle.rdp_pixels.specs.Kept.{kept}
use Rattle.rdp_texels.specs.Texels.{Move, ahead_of, behind_of, texel, texel_address, moves_through}
use Rattle.rdp_texels.specs.Load.{rgba16}

-- ---- "the rectangle needs"

-- a number of 32nds of a texel is whole
abbrev pub whole_texels : ℤ → Bool
whole_texels z = eqb (ahead_of z % 32) 0 && eqb (behind_of z % 32) 0

-- "dsdx 0x1000, dtdy 0x0400, s and t .. in whole texels"
abbrev pub step_needs : TextureStep → Bool
step_needs p = ((eqb (ahead_of p.dsdx) 0x1000 && eqb (ahead_of p.dtdy) 0x0400) && whole_texels p.s) && whole_texels p.t

-- "the tile's upper left in whole texels"; it is held in quarters
abbrev pub corner_needs : TexelCorner → Bool
corner_needs u = eqb (u.s % 4) 0 && eqb (u.t % 4) 0

-- "mask, shift, mirror .. off"
abbrev pub tile_needs : TileDescriptor → Bool
tile_needs d =
    (eqb d.mask_s 0 && eqb d.mask_t 0)
    && ((eqb d.shift_s 0 && eqb d.shift_t 0) && (not d.mirror_s && not d.mirror_t))

-- "perspective, look-up and alpha compare off"
abbrev pub mode_needs : CopyFields → Bool
mode_needs c = not c.perspective && (not c.lookup && not c.alpha_compare)

-- 17 refuses a COPY rectangle "whose .. descriptor isn't set and 16-bit RGBA, .. on an image not of 16 bits, or one breaking a need above"
unfoldable pub copy_needs : CopyFields → Bool
copy_needs c =
    ((c.tile_set && rgba16 c.tile.format c.tile.size) && eqb c.image.size 2)
    && ((step_needs c.rectangle.step && corner_needs c.tile_corner) && (tile_needs c.tile && mode_needs c))

-- ---- its pixels

-- pixel (x, y) "reads the texel of row t + y - top - tile top, column likewise, top being the rectangle's own first row"
abbrev pub copy_move : CopyFields → ℕ → ℕ → Move
copy_move c y x =
    let r = c.rectangle in
    texel (texel_address c.image.address c.image.width x y) c.tile.address c.tile.line
    (ahead_of r.step.t / 32 + y) (behind_of r.step.t / 32 + r.upper_left.y / 4 + c.tile_corner.t / 4)
    (ahead_of r.step.s / 32 + x) (behind_of r.step.s / 32 + r.upper_left.x / 4 + c.tile_corner.s / 4)

-- "pixels are written row by row, each row from the left"; "coverage, scissor .. are as for fill"
unfoldable pub copy_moves : CopyFields → List Move
copy_moves c =
    let r = c.rectangle in
    moves_through (r.upper_left.y / 4) (r.lower_right.y / 4)
    (λ y. moves_through (r.upper_left.x / 4) (r.lower_right.x / 4) (λ x. cond (kept c.scissor x y) (copy_move c y x ∷ []) []))
