-- `rdp_index::replacing::starts_at` meets its contract. The loop's invariant: whether a command left starts at the place is whether one does. Assumes nothing.
use Rattle.rdp_index.proofs.StartLaws.{Starting}
use Rattle.rdp_index.proofs.replacing.starts_at.Given as goal

abbrev pub invariant-loop-command : goal.invariant-loop-command
invariant-loop-command l = Starting l.list l.place l.command-iterator.0.now l.at
