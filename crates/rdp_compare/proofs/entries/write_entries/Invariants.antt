use Rattle.rdp_compare.proofs.PairLaws.{Writing}
use Rattle.rdp_compare.proofs.entries.write_entries.Given as goal

abbrev pub invariant-loop-pair : goal.invariant-loop-pair
invariant-loop-pair l = Writing l.first l.second l.initial.entries l.entries l.pair-iterator l.to
