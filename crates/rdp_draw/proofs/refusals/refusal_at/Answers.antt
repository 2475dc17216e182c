-- `rdp_draw::refusals::refusal_at` meets its contract: a line for each number. Assumes nothing.
use native.Mathlib.Omega.{arith}
use Rattle.rdp_draw.proofs.DrawLaws.{refusal-fill, refusal-copy, refusal-load, refusal-block, refusal-17, refusal-10}
use Rattle.rdp_draw.proofs.refusals.refusal_at.Goals as goal

pub returns-then-at-eq54 : goal.returns-then-at-eq54
returns-then-at-eq54 c =
    let a = c.args in
    refusal-fill a.start a.len a.file.now a.list.now a.at.place a.at.number c.if-at-eq54.true _ _
    c.fill_at.ensures c.fill_refusal.ensures

pub copy_at-requires : goal.copy_at-requires
copy_at-requires c = c.requires

pub returns-then-at-eq36 : goal.returns-then-at-eq36
returns-then-at-eq36 c =
    let a = c.args in
    refusal-copy a.start a.len a.file.now a.list.now a.at.place a.at.number c.if-at-eq36.true _ _
    c.copy_at.ensures c.copy_refusal.ensures

pub returns-then-at-eq52 : goal.returns-then-at-eq52
returns-then-at-eq52 c =
    let a = c.args in
    refusal-load a.start a.len a.file.now a.list.now a.at.place a.at.number c.if-at-eq52.true _ _
    c.load_at.ensures c.load_refusal.ensures

pub returns-then-at-eq51 : goal.returns-then-at-eq51
returns-then-at-eq51 c =
    let a = c.args in
    refusal-block a.start a.len a.file.now a.list.now a.at.place a.at.number c.if-at-eq51.true _ _
    c.load_at-then-at-eq51.ensures c.block_refusal.ensures

pub returns-then-at-eq48 : goal.returns-then-at-eq48
returns-then-at-eq48 c =
    let a = c.args in
    refusal-17 a.start a.len a.file.now a.list.now a.at.place a.at.number (omega (arith, c.if-at-eq48.true))

pub returns : goal.returns
returns c =
    let a = c.args in
    refusal-10 a.start a.len a.file.now a.list.now a.at.place a.at.number c.if-at-eq54.false c.if-at-eq36.false c.if-at-eq52.false c.if-at-eq51.false
    c.if-at-eq48.false
