-- `rdp_texels::bytes::move_turned` meets its contract. The invariant stands first. Assumes nothing.
use Rattle.std.proofs.Common.{ℕ, ◌+◌, get_or, ap, arith}
use Rattle.rdp_texels.proofs.TurnLaws.{flag, inside-to, inside-from}
use Rattle.rdp_texels.proofs.PartLaws.{taken_none, taken_more}
use Rattle.rdp_texels.proofs.bytes.move_turned.Goals as goal

pub loop-k-init : goal.loop-k-init
loop-k-init g c = taken_none

pub bounds-from-turn : goal.bounds-from-turn
bounds-from-turn g c =
    let r = c.args.run in
    let f = c.requires.0 in
    omega (arith, c.turn.ensures, inside-from (flag g.row.INTO) (r.s + c.loop-k.k) _ _ f.size (omega (arith, f.source)))

pub bounds-to-turn : goal.bounds-to-turn
bounds-to-turn g c =
    let r = c.args.run in
    let f = c.requires.0 in
    omega (arith, c.turn-in-loop-k.ensures, inside-to (flag g.row.INTO) (r.d + c.loop-k.k) _ _ f.size (omega (arith, f.target)))

pub loop-k-preserved : goal.loop-k-preserved
loop-k-preserved g c =
    let r = c.args.run in
    let f = c.requires.0 in
    taken_more c.loop-k.invariant c.loop-k.auto.k (inside-to (flag g.row.INTO) (r.d + c.loop-k.k) _ _ f.size (omega (arith, f.target))) c.turn-in-loop-k.ensures
    (ap (λ (i : ℕ). get_or c.args.from.now i 0) c.turn.ensures)
