use Rattle.std.proofs.Common.{◌≤◌, length, refl, arith}
use Rattle.rdp_compare.proofs.PairLaws.{start-inside}
use Rattle.rdp_compare.proofs.rest.Goals.{In-Ok-InFirst, In-Ok-InSecond}
use Rattle.rdp_compare.proofs.rest.Goals as goal

-- the rest begins inside its list
inside-first : (c : In-Ok-InFirst) → c.in-Ok-InFirst.start ≤ length c.args.first.now
inside-first c = start-inside c.args.first.now c.args.second.now c.args.room (rw c.in-Ok-InFirst.field-0-is at c.in-Ok-InFirst.ensures.start) refl

inside-second : (c : In-Ok-InSecond) → c.in-Ok-InSecond.start ≤ length c.args.second.now
inside-second c = start-inside c.args.first.now c.args.second.now c.args.room (rw c.in-Ok-InSecond.field-0-is at c.in-Ok-InSecond.ensures.start) refl

pub slice_bounds-result-count : goal.slice_bounds-result-count
slice_bounds-result-count c = omega (arith, inside-first c)

pub slice_bounds-result-start : goal.slice_bounds-result-start
slice_bounds-result-start c = omega (arith, inside-first c)

pub slice_bounds-result-count-in-Ok-InSecond : goal.slice_bounds-result-count-in-Ok-InSecond
slice_bounds-result-count-in-Ok-InSecond c = omega (arith, inside-second c)

pub slice_bounds-result-start-in-Ok-InSecond : goal.slice_bounds-result-start-in-Ok-InSecond
slice_bounds-result-start-in-Ok-InSecond c = omega (arith, inside-second c)
