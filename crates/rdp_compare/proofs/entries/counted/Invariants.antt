use Rattle.rdp_compare.proofs.PairLaws.{Counting}
use Rattle.rdp_compare.proofs.entries.counted.Given as goal

abbrev pub invariant-loop-pair : goal.invariant-loop-pair
invariant-loop-pair l = Counting l.first l.second l.pairs l.count
