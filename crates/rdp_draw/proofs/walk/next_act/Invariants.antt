-- `rdp_draw::walk::next_act` meets its contract. The loop's invariant: what was due at its start is due here. The measure is what is left of the words.
-- Assumes nothing.
use Rattle.rdp_draw.proofs.SeenLaws.{Walks}
use Rattle.rdp_draw.proofs.walk.next_act.Given as goal

abbrev pub invariant-loop-at : goal.invariant-loop-at
invariant-loop-at l = Walks l.list l.from l.initial.file l.words l.file l.at
