-- `rdp_repair::repairing::Basis::note_numbers` meets its contract: the numbers noted and those of the commands left are the numbers of all, and so are the words
-- that are kept. Assumes nothing.
use Rattle.rdp_repair.proofs.PassLaws.{Noting}
use Rattle.rdp_repair.proofs.repairing.Basis.note_numbers.Given as goal

abbrev pub invariant-loop-command : goal.invariant-loop-command
invariant-loop-command l = Noting l.self.afresh l.self.list.now l.command-iterator.0.now l.initial.work l.work l.commands l.words
