-- `rdp_block::block_refusal` meets its contract. Assumes nothing.
use Rattle.std.proofs.Common.{not, sym, ap, ◌∙◌}
use borrow.Author.Tests.{not-true, not-false}
use Rattle.rdp_block.proofs.BlockLaws.{block-broken, block-refusal-is}
use Rattle.rdp_block.proofs.block_refusal.Goals as goal

pub returns-then-not-block_needs : goal.returns-then-not-block_needs
returns-then-not-block_needs c = let s = c.args in block-broken s.load s.start s.len (sym c.block_needs.ensures ∙ not-true _ (ap not c.if-not-block_needs.true))

pub returns : goal.returns
returns c =
    let s = c.args in
    block-refusal-is s.load s.start c.of_load.ensures s.len (sym c.block_needs.ensures ∙ not-false _ (ap not c.if-not-block_needs.false)) c.refusal.ensures
