-- `rdp_texels::load_tile` meets its contract. Assumes nothing.
use Rattle.rdp_texels.proofs.GroundLaws.{refused, allowed}
use Rattle.rdp_texels.proofs.ActLaws.{stays-unsized, stays-refused, all-moved, load-clear, load-are}
use Rattle.std.proofs.Common.{length, ◌∙◌}
use Rattle.rdp_texels.specs.Refusals.{load_texture}
use Rattle.rdp_texels.proofs.load_tile.Goals as goal

pub returns-then-texture-ne-TEXTURE_BYTES-clause-texture :
    goal.returns-then-texture-ne-TEXTURE_BYTES-clause-texture
unfolding load_texture
returns-then-texture-ne-TEXTURE_BYTES-clause-texture c = stays-unsized _ _ _ _ c.if-texture-ne-TEXTURE_BYTES.true

pub returns-in_err-load_refusal-clause-texture : goal.returns-in_err-load_refusal-clause-texture
unfolding load_texture
returns-in_err-load_refusal-clause-texture c =
    stays-refused _ _ _ _ c.if-texture-ne-TEXTURE_BYTES.false (refused c.in_err-load_refusal.was c.load_refusal.ensures)

pub move_texels-requires-clause-fits : goal.move_texels-requires-clause-fits
move_texels-requires-clause-fits c =
    let s = c.args in
    let p = c.of_load.ensures in
    load-clear s.load s.start (length s.memory.now) p.grid p.span (allowed c.in_ok-load_refusal.was c.load_refusal.ensures)

pub returns-clause-texture : goal.returns-clause-texture
unfolding load_texture
returns-clause-texture c =
    let s = c.args in
    let p = c.of_load.ensures in
    c.move_texels.ensures ∙ load-are s.load s.start (length s.memory.now) p.grid p.span s.memory.now s.texture.now
    ∙ all-moved _ _ _ _ c.if-texture-ne-TEXTURE_BYTES.false (allowed c.in_ok-load_refusal.was c.load_refusal.ensures)
