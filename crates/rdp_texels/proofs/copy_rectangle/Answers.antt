-- `rdp_texels::copy_rectangle` meets its contract. Assumes nothing.
use Rattle.rdp_texels.proofs.GroundLaws.{refused, allowed}
use Rattle.rdp_texels.proofs.ActLaws.{stays-unsized, stays-refused, all-moved, copy-clear, copy-are}
use Rattle.std.proofs.Common.{length, ◌∙◌}
use Rattle.rdp_texels.specs.Refusals.{copy_memory}
use Rattle.rdp_texels.proofs.copy_rectangle.Goals as goal

pub returns-then-texture-ne-TEXTURE_BYTES-clause-memory :
    goal.returns-then-texture-ne-TEXTURE_BYTES-clause-memory
unfolding copy_memory
returns-then-texture-ne-TEXTURE_BYTES-clause-memory c = stays-unsized _ _ _ _ c.if-texture-ne-TEXTURE_BYTES.true

pub returns-in_err-copy_refusal-clause-memory : goal.returns-in_err-copy_refusal-clause-memory
unfolding copy_memory
returns-in_err-copy_refusal-clause-memory c =
    stays-refused _ _ _ _ c.if-texture-ne-TEXTURE_BYTES.false (refused c.in_err-copy_refusal.was c.copy_refusal.ensures)

pub move_texels-requires-clause-fits : goal.move_texels-requires-clause-fits
move_texels-requires-clause-fits c =
    let s = c.args in
    let p = c.of_copy.ensures in
    copy-clear s.copy s.start (length s.memory.now) p.grid p.span (allowed c.in_ok-copy_refusal.was c.copy_refusal.ensures)

pub returns-clause-memory : goal.returns-clause-memory
unfolding copy_memory
returns-clause-memory c =
    let s = c.args in
    let p = c.of_copy.ensures in
    c.move_texels.ensures ∙ copy-are s.copy s.start (length s.memory.now) p.grid p.span s.texture.now s.memory.now
    ∙ all-moved _ _ _ _ c.if-texture-ne-TEXTURE_BYTES.false (allowed c.in_ok-copy_refusal.was c.copy_refusal.ensures)
