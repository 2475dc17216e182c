-- Whole blocks, and what is left after them. Assumes nothing.
use Rattle.std.proofs.Common.{arith, length, ◌-◌}
use Rattle.rdp_fill.proofs.PatternLaws.{follows-less, follows-end, part-size}
use Rattle.rdp_fill.proofs.run.write_run.Goals as goal

pub returns-in-0 : goal.returns-in-0
returns-in-0 g c = follows-less _ c.blocks-reached.ensures.bytes (omega arith)

pub returns-in-1-to-15 : goal.returns-in-1-to-15
returns-in-1-to-15 g c = follows-less _ (c.end.ensures c.blocks-reached.result (omega arith) c.blocks-reached.ensures.bytes) (omega arith)

pub returns-in_default-2 : goal.returns-in_default-2
returns-in_default-2 g c =
    let reached = c.blocks-reached.result in
    let now = c.blocks-reached.new.run in
    follows-end _ reached 0 (length now - reached) (length c.args.run.now) _ _ _ c.blocks-reached.ensures.bytes c.copy-in_default-2.ensures
    (part-size reached (length now) now (omega arith))
    (omega arith)
    (omega arith)
    (omega arith)
    (omega arith)
