-- `rdp_texels::load_run` meets its contract. Assumes nothing.
use Rattle.std.proofs.Common.{sym, ◌∙◌}
use Rattle.rdp_texels.proofs.ActLaws.{run-loads, run-stays}
use Rattle.rdp_texels.proofs.load_run.Goals as goal

pub returns-then-run_fits : goal.returns-then-run_fits
returns-then-run_fits c =
    let a = c.args in
    c.move_run.ensures ∙
    run-loads a.s a.d a.n a.odd a.memory.now a.texture.now (sym c.run_fits.ensures ∙ c.if-run_fits.true)

pub returns : goal.returns
returns c =
    let a = c.args in
    run-stays a.s a.d a.n a.odd a.memory.now a.texture.now (sym c.run_fits.ensures ∙ c.if-run_fits.false)
