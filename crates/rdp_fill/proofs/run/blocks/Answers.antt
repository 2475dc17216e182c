-- Each block is written after the ones before it. Assumes nothing.
use Rattle.std.proofs.Common.{arith, length, ◌*◌, ◌≤◌, ◌+◌, ◌-◌, ◌≡◌, ◌∙◌}
use Rattle.std.proofs.Math.Nat.{mul-le-mul_left}
use Rattle.rdp_fill.proofs.PatternLaws.{follows-none, follows-less, part-size, block-written, block-fits, block-phase, blocks-near}
use Rattle.rdp_fill.proofs.run.blocks.Goals as goal

pub loop-k-init : goal.loop-k-init
loop-k-init g c = follows-less _ follows-none (omega arith)

pub loop-k-preserved : goal.loop-k-preserved
loop-k-preserved g c =
    let n = g.row.N in
    let k = c.loop-k.k in
    let fits = block-fits n (length c.args.run.now) c.requires.0 k c.loop-k-test.true in
    let at = n * k in
    let inside : at + n ≤ length c.loop-k.run = omega arith in
    let size : at + n - at ≡ n = omega arith in
    block-written _ n k _ _ _ c.loop-k.invariant c.copy.ensures (part-size at (at + n) c.loop-k.run inside ∙ size) c.requires.1 c.requires.2 (omega arith)

pub returns-clause-reached : goal.returns-clause-reached
returns-clause-reached g c =
    let n = g.row.N in
    let len = length c.args.run.now in (
      omega (arith, blocks-near n len c.requires.0, c.requires.0),
      blocks-near n len c.requires.0,
      block-phase n _ c.requires.1,
    )

pub returns-clause-bytes : goal.returns-clause-bytes
returns-clause-bytes g c = follows-less _ c.loop-k.invariant (mul-le-mul_left g.row.N c.loop-k-test.false)
