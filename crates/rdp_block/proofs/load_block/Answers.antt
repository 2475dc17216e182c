-- `rdp_block::load_block` meets its contract. Assumes nothing.
use Rattle.rdp_texels.proofs.GroundLaws.{refused, allowed}
use Rattle.rdp_texels.proofs.ActLaws.{stays-unsized, stays-refused, all-moved}
use Rattle.std.proofs.Common.{length, ◌∙◌}
use Rattle.rdp_block.specs.Block.{block_texture}
use Rattle.rdp_block.specs.Views.{stripped}
use Rattle.rdp_block.proofs.BlockLaws.{block-fits, block-loaded}
use Rattle.rdp_block.proofs.StripLaws.{two-parts}
use Rattle.rdp_block.proofs.load_block.Goals as goal

pub returns-then-texture-ne-TEXTURE_BYTES-clause-texture :
    goal.returns-then-texture-ne-TEXTURE_BYTES-clause-texture
unfolding block_texture
returns-then-texture-ne-TEXTURE_BYTES-clause-texture c = stays-unsized _ _ _ _ c.if-texture-ne-TEXTURE_BYTES.true

pub returns-in_err-block_refusal-clause-texture : goal.returns-in_err-block_refusal-clause-texture
unfolding block_texture
returns-in_err-block_refusal-clause-texture c =
    stays-refused _ _ _ _ c.if-texture-ne-TEXTURE_BYTES.false (refused c.in_err-block_refusal.was c.block_refusal.ensures)

pub load_words-first-requires : goal.load_words-first-requires
load_words-first-requires c =
    let s = c.args in
    block-fits s.load s.start c.of_load-block.ensures (length s.memory.now) (length s.texture.now) c.if-texture-ne-TEXTURE_BYTES.false
    (allowed c.in_ok-block_refusal.was c.block_refusal.ensures)

pub load_lines-requires : goal.load_lines-requires
load_lines-requires c =
    let s = c.args in
    let size = c.load_words-first.auto.texture ∙ c.if-texture-ne-TEXTURE_BYTES.false in (
      block-fits s.load s.start c.of_load-block.ensures (length s.memory.now) _ size (allowed c.in_ok-block_refusal.was c.block_refusal.ensures),
      c.load_words-first.ensures.0,
    )

pub returns-clause-texture : goal.returns-clause-texture
unfolding block_texture
returns-clause-texture c =
    let s = c.args in
    let first = c.load_words-first.ensures in
    let b = stripped c.of_load-block.result in
    block-loaded s.load s.start c.of_load-block.ensures s.memory.now s.texture.now
    (two-parts b b.start s.memory.now s.texture.now c.load_words-first.result first.0 first.1 c.load_lines.ensures)
    ∙ all-moved _ _ _ _ c.if-texture-ne-TEXTURE_BYTES.false (allowed c.in_ok-block_refusal.was c.block_refusal.ensures)
