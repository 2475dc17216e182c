-- `rdp_draw::refusals::copy_refusal` meets its contract. Assumes nothing.
use Rattle.rdp_draw.proofs.DrawLaws.{copy-10, copy-11, copy-others}
use Rattle.rdp_draw.proofs.refusals.copy_refusal.Goals as goal

pub returns-then-copy-ne2 : goal.returns-then-copy-ne2
returns-then-copy-ne2 c = let a = c.args in copy-10 a.start a.len a.copy c.if-copy-ne2.true

pub returns-then-copy-ne0 : goal.returns-then-copy-ne0
returns-then-copy-ne0 c = let a = c.args in copy-11 a.start a.len a.copy c.if-copy-ne2.false c.if-copy-ne0.true

pub returns : goal.returns
returns c =
    let a = c.args in
    copy-others a.start a.len a.copy c.if-copy-ne2.false c.if-copy-ne0.false _ c.copy_refusal.ensures
