-- `rdp_repair::repairing::count_inserts` meets its contract: what is counted and what is left to count make the whole. Assumes nothing.
use Rattle.std.proofs.Common.{◌≡◌, ◌+◌, ◌*◌, ◌-◌, ◌/◌, min, get_or, drop, ap, ◌∙◌, arith}
use mir.Val.{bool_byte}
use Rattle.rdp_repair.proofs.ForwardLaws.{inserts-at, inserts-end}
use Rattle.rdp_repair.proofs.WriteLaws.{sync-counted}
use Rattle.rdp_repair.proofs.repairing.count_inserts.Goals.{After-is_some}
use Rattle.rdp_repair.proofs.repairing.count_inserts.Goals as goal

-- what a turn counts
counted : (c : After-is_some) → bool_byte c.is_some.result ≡ min (get_or c.args.work.now (16 * c.loop-i.i + c.loop-i.hazards) 0 / 16) 1
counted c =
    let small = c.requires.1 (16 * c.loop-i.i + c.loop-i.hazards) (omega (arith, c.loop-i.invariant.0)) in
    ap bool_byte c.is_some.ensures ∙ sync-counted c.sync_in-sync.result ∙ ap (λ k. min k 1) (c.sync_in-sync.ensures small)

pub loop-i-preserved : goal.loop-i-preserved
loop-i-preserved c =
    let i = c.loop-i.invariant in
    let one = counted (goal.at.loop-i-preserved c).After-is_some in
    (omega arith, omega (arith, one), omega (arith, i.2, inserts-at c.args.work.now c.args.commands c.loop-i.i c.loop-i.hazards (omega arith), one))

pub returns : goal.returns
returns c =
    omega (arith, c.loop-i.invariant.2, inserts-end (drop (16 * c.loop-i.i) c.args.work.now) c.loop-i.hazards (c.args.commands - c.loop-i.i) (omega arith))
