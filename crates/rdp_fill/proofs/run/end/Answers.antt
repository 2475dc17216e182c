-- The last bytes go over what was written before them. Assumes nothing.
use Rattle.std.proofs.Common.{arith, length, take, ap, ◌∙◌, ◌-◌, ◌%◌}
use Rattle.std.proofs.lemmas.List.{take_rest}
use Rattle.rdp_fill.proofs.PatternLaws.{follows-less, follows-end, part-size}
use Rattle.rdp_fill.proofs.run.end.Goals as goal

pub returns : goal.returns
returns g c n near before =
    let p = c.args.pattern.now in
    let len = length c.args.run.now in
    let at = len - g.row.N in
    follows-end p at (at % 4) (len - at) len _ _ _ (follows-less at before (omega arith)) (c.copy.ensures ∙ ap (take _) (take_rest p (at % 4)))
    (part-size at len c.args.run.now (omega arith))
    (omega arith)
    (omega arith)
    (omega arith)
    (omega arith)
