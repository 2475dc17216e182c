-- The cycle of calls {run_command, run_list}. The commands that may still be read fall at each call of a list, and `run_list` lies above the commands that it runs.
-- The loop's invariant: the walk from the start of the list is the walk from here.
use Rattle.std.proofs.Common.{◌+◌, ◌-◌, ◌*◌}
use Rattle.f3dex2.proofs.RunLaws.{Ran}
use Rattle.f3dex2.proofs.Walker.+run_command_run_list.Given as goal

abbrev pub decreases-run_command : goal.decreases-run_command
decreases-run_command l = 2 * (4096 - l.self.now.read)

abbrev pub decreases-run_list : goal.decreases-run_list
decreases-run_list l = 2 * (4096 - l.self.now.read) + 1

abbrev pub invariant-run_list-loop-next : goal.invariant-run_list-loop-next
invariant-run_list-loop-next l = Ran l.initial.self l.initial.at l.depth l.self l.at

abbrev pub decreases-run_list-loop-next : goal.decreases-run_list-loop-next
decreases-run_list-loop-next l = 4096 - l.self.read
