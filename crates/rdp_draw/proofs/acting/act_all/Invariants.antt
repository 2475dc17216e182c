-- `rdp_draw::acting::act_all` meets its contract. The loop's invariant: what the acts that are due make of the memories is what all make of them, and none of
-- them is refused. The measure is what is left of the words.
-- Assumes nothing.
use Rattle.std.proofs.Common.{◌-◌}
use Rattle.rdp_draw.specs.Draw.{memories}
use Rattle.rdp_draw.proofs.DrawLaws.{Going, Does}
use Rattle.rdp_draw.proofs.acting.act_all.Given as goal

abbrev pub invariant-loop-reached : goal.invariant-loop-reached
invariant-loop-reached l = Going (Does l.list l.start l.words (memories l.initial.memory l.initial.texture) (memories l.memory l.texture)) l.list l.words l.next l.file

abbrev pub decreases-loop-reached : goal.decreases-loop-reached
decreases-loop-reached l = l.words - l.next
