-- `rdp_texels::bytes::move_run` meets its contract. Assumes nothing.
use Rattle.std.proofs.Common.{arith}
use borrow.Author.Tests.{not-true, not-false}
use Rattle.rdp_texels.proofs.PartLaws.{copied-even, written-over}
use Rattle.rdp_texels.proofs.TurnLaws.{flag}
use Rattle.rdp_texels.proofs.ExchangeLaws.{odd-three}
use Rattle.rdp_texels.proofs.bytes.move_run.Goals as goal

pub returns-then-not-run : goal.returns-then-not-run
returns-then-not-run g c =
    let r = c.args.run in
    let f = c.requires in
    copied-even r.s r.d r.n c.args.from.now c.args.to.now f.source f.target (written-over r.s r.d r.n c.args.from.now c.args.to.now f.source f.target c.copy.ensures)
    (flag g.row.INTO) r.odd (not-true _ c.if-not-run.true)

pub returns : goal.returns
returns g c =
    let r = c.args.run in
    let h = c.head-first.ensures in
    odd-three (flag g.row.INTO) r.odd (not-false _ c.if-not-run.false) r.s r.d c.head-first.result r.n _ c.args.from.now c.args.to.now (omega (arith, h.0)) h.1
    c.move_turned.ensures c.exchange_groups.ensures c.move_turned-2.ensures
