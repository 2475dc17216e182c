-- `rdp_draw::refusals::fill_refusal` meets its contract. Assumes nothing.
use Rattle.rdp_draw.proofs.DrawLaws.{fill-10, fill-11, fill-12, fill-0}
use Rattle.rdp_draw.proofs.refusals.fill_refusal.Goals as goal

pub returns-then-fill-ne3 : goal.returns-then-fill-ne3
returns-then-fill-ne3 c = let a = c.args in fill-10 a.start a.len a.fill c.if-fill-ne3.true

pub returns-then-fill-ne0 : goal.returns-then-fill-ne0
returns-then-fill-ne0 c = let a = c.args in fill-11 a.start a.len a.fill c.if-fill-ne3.false c.if-fill-ne0.true

pub returns-then-is_inside : goal.returns-then-is_inside
returns-then-is_inside c =
    let a = c.args in
    fill-0 a.start a.len a.fill c.if-fill-ne3.false c.if-fill-ne0.false _ c.is_inside.ensures c.if-is_inside.true

pub returns : goal.returns
returns c =
    let a = c.args in
    fill-12 a.start a.len a.fill c.if-fill-ne3.false c.if-fill-ne0.false _ c.is_inside.ensures c.if-is_inside.false
