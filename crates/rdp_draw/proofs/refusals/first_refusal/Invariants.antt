-- `rdp_draw::refusals::first_refusal` meets its contract. The loop's invariant: the first refusal of the acts that are due is that of the list. The measure is what is left of the words.
-- Assumes nothing.
use Rattle.std.proofs.Common.{◌-◌}
use Rattle.rdp_draw.proofs.DrawLaws.{Going, Tests}
use Rattle.rdp_draw.proofs.refusals.first_refusal.Given as goal

abbrev pub invariant-loop-reached : goal.invariant-loop-reached
invariant-loop-reached l = Going (Tests l.list l.start l.len l.words) l.list l.words l.next l.file

abbrev pub decreases-loop-reached : goal.decreases-loop-reached
decreases-loop-reached l = l.words - l.next
