-- `rdp_texels::load_refusal` meets its contract. Assumes nothing.
use Rattle.std.proofs.Common.{not, sym, ap, ◌∙◌}
use borrow.Author.Tests.{not-true, not-false}
use Rattle.rdp_texels.proofs.ActLaws.{load-broken, load-refusal-is}
use Rattle.rdp_texels.proofs.load_refusal.Goals as goal

pub returns-then-not-load_needs : goal.returns-then-not-load_needs
returns-then-not-load_needs c = let s = c.args in load-broken s.load s.start s.len (sym c.load_needs.ensures ∙ not-true _ (ap not c.if-not-load_needs.true))

pub returns : goal.returns
returns c =
    let s = c.args in
    let p = c.of_load.ensures in
    load-refusal-is s.load s.start s.len p.grid p.span (sym c.load_needs.ensures ∙ not-false _ (ap not c.if-not-load_needs.false)) c.refusal.ensures
