-- `rdp_check::walk::walk` meets its contract. The loop's invariant: the judgement of what is left is that of the whole list from the first view, and the numbers that are
-- watched are those of the commands that must be. The measure is what is left of the words. Assumes nothing.
use Prim.Native.Nat.{◌-◌}
use Rattle.rdp_check.specs.View.{Watches, judged_view}
use Rattle.rdp_check.proofs.WalkLaws.{Walked}
use Rattle.rdp_check.proofs.walk.walk.Given as goal

abbrev pub invariant-loop-at : goal.invariant-loop-at
invariant-loop-at l =
    Walked l.strict l.list l.words (judged_view l.strict (record { hazards = l.initial.hazards; rest = l.initial.rest }) 0 l.list) (record { hazards = l.hazards; rest = l.rest }) l.at × Watches l.watched l.rest

abbrev pub decreases-loop-at : goal.decreases-loop-at
decreases-loop-at l = l.words - l.at
