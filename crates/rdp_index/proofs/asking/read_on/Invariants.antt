-- `rdp_index::asking::read_on` meets its contract. The loop's invariant: reading on from here gives the answer. Assumes nothing.
use Rattle.rdp_index.proofs.ReadLaws.{Reading}
use Rattle.rdp_index.proofs.asking.read_on.Given as goal

abbrev pub invariant-loop-read : goal.invariant-loop-read
invariant-loop-read l = Reading l.list l.words l.place l.start l.before l.at l.hazards l.read
