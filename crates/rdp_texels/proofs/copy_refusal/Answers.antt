-- `rdp_texels::copy_refusal` meets its contract. Assumes nothing.
use Rattle.std.proofs.Common.{not, sym, ap, ◌∙◌}
use borrow.Author.Tests.{not-true, not-false}
use Rattle.rdp_texels.proofs.ActLaws.{copy-broken, copy-refusal-is}
use Rattle.rdp_texels.proofs.copy_refusal.Goals as goal

pub returns-then-not-copy_needs : goal.returns-then-not-copy_needs
returns-then-not-copy_needs c = let s = c.args in copy-broken s.copy s.start s.len (sym c.copy_needs.ensures ∙ not-true _ (ap not c.if-not-copy_needs.true))

pub returns : goal.returns
returns c =
    let s = c.args in
    let p = c.of_copy.ensures in
    copy-refusal-is s.copy s.start s.len p.grid p.span (sym c.copy_needs.ensures ∙ not-false _ (ap not c.if-not-copy_needs.false)) c.refusal.ensures
