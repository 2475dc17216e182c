-- `rdp_index::noting::note` meets its contract. The loop's invariant: the entries noted and those to come are the entries of the list. Assumes nothing.
use Rattle.rdp_index.proofs.NoteLaws.{Noting}
use Rattle.rdp_index.proofs.noting.note.Given as goal

abbrev pub invariant-loop-command : goal.invariant-loop-command
invariant-loop-command l = Noting l.list l.command-iterator.0.now l.made l.at l.hazards l.left l.entries
