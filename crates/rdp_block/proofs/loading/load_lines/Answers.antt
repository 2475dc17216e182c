-- `rdp_block::loading::load_lines` meets its contract. The loop's invariant: what is still to come of the texels gives what was promised. Assumes nothing.
use Rattle.std.proofs.Common.{◌-◌, refl, arith}
use Rattle.rdp_block.specs.Views.{stripped}
use Rattle.rdp_block.proofs.LineLaws.{line-falls, line_same}
use Rattle.rdp_block.proofs.StripLaws.{due-line, due-done, run-loaded}
use Rattle.rdp_block.proofs.loading.load_lines.Goals as goal

pub loop-k-preserved : goal.loop-k-preserved
loop-k-preserved c =
    let v = c.loop-k in
    let l = c.loop-k-test.true in
    let ends = c.line_end-end.ensures in
    let line = c.line_of-line.ensures.0 in
    let end = c.line_end-end.result in
    let falls = line-falls v.k ends line l in
    due-line v.k end v.invariant (omega (arith, falls)) ends.most c.load_run.auto.texture
    (run-loaded (stripped c.args.block) c.args.memory.now v.texture (rw v.invariant.long c.requires.0) v.k (end - v.k) c.line_of-line.result
    (omega (arith, falls, ends.most)) (λ k from to. line_same v.k ends line k from (omega (arith, to, falls))) refl refl refl refl
    c.load_run.ensures)

pub returns : goal.returns
returns c = due-done c.loop-k.invariant c.loop-k-test.false
