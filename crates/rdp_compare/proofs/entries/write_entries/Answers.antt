use Rattle.rdp_compare.proofs.PairLaws.{writing-first, turn-fits, writing-next, written}
use Rattle.rdp_compare.proofs.entries.write_entries.Goals as goal

pub loop-pair-init : goal.loop-pair-init
loop-pair-init c =
    writing-first c.args.first.now c.args.second.now c.args.entries.now c.into_iter-pair-iterator.result c.requires.1 (rw c.into_iter-pair-iterator.ensures.into_iter_gives c.new-pair-items.ensures)

pub put_entry-to-requires : goal.put_entry-to-requires
put_entry-to-requires c = turn-fits c.loop-pair.invariant c.in-Some.ensures.steps

pub loop-pair-preserved : goal.loop-pair-preserved
loop-pair-preserved c = writing-next c.loop-pair.invariant c.in-Some.ensures.steps c.put_entry-to.ensures

pub returns : goal.returns
returns c = written c.loop-pair.invariant c.in-None.ensures.steps.1
