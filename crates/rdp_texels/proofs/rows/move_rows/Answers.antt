-- `rdp_texels::rows::move_rows` meets its contract. The invariant stands first. Assumes nothing.
use Rattle.rdp_texels.proofs.LoopLaws.{due-next, due-done}
use Rattle.rdp_texels.proofs.rows.move_rows.Goals as goal

pub loop-y-preserved : goal.loop-y-preserved
loop-y-preserved g c = due-next c.loop-y.invariant c.loop-y-test.true c.move_row.auto.to c.move_row.ensures

pub returns : goal.returns
returns g c = due-done c.loop-y.invariant c.loop-y-test.false
