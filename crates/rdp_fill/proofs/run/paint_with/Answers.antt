-- Each run is written after the ones before it. Assumes nothing.
use Rattle.std.proofs.Common.{arith, length, ◌≡◌, ◌∙◌, ◌≤◌, ◌+◌, ◌*◌}
use Rattle.rdp_fill.proofs.PatternLaws.{part-size}
use Rattle.rdp_fill.proofs.RunLaws.{run-fits, runs_none, run-written}
use Rattle.rdp_fill.proofs.run.paint_with.Goals as goal

pub loop-row-init : goal.loop-row-init
loop-row-init g c = runs_none _ _ _ _ _

pub loop-row-preserved : goal.loop-row-preserved
loop-row-preserved g c =
    let r = c.args.runs.now in
    let k = c.loop-row.row in
    let fits = run-fits r k (length c.args.memory.now) c.requires.fit c.loop-row-test.true in
    let inside : r.from + k * r.stride + r.size ≤ length c.loop-row.memory = omega arith in
    let size = part-size (r.from + k * r.stride) (r.from + k * r.stride + r.size) c.loop-row.memory inside in
    run-written c.args.color r k _ _ _ _ _ _ c.loop-row.invariant c.write_run.ensures c.lay_pattern.ensures (omega arith)
    (omega arith)
    (c.write_run.auto.run ∙ size)
    size
    (omega arith)
    inside

pub returns : goal.returns
returns g c =
    let all : c.args.runs.now.rows ≡ c.loop-row.row = omega arith in
    rw all c.loop-row.invariant
