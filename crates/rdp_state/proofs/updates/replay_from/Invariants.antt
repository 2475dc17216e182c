-- `rdp_state::updates::replay_from` meets its contract: the words after the commands that are left are those after the list. The measure is what is left of
-- the words. Assumes nothing.
use Rattle.std.proofs.Common.{◌-◌, ◌*◌, drop}
use Rattle.rdp_state.proofs.ReplayLaws.{Replayed}
use Rattle.rdp_state.proofs.updates.replay_from.Given as goal

abbrev pub invariant-loop-at : goal.invariant-loop-at
invariant-loop-at l = Replayed l.list l.end l.initial.replay.words l.before (drop (8 * l.at) l.list) l.replay.words l.replay.waited l.at

abbrev pub decreases-loop-at : goal.decreases-loop-at
decreases-loop-at l = l.count - l.at
