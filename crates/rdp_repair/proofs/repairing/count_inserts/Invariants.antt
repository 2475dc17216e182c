-- `rdp_repair::repairing::count_inserts` meets its contract: what is counted and what is left to count make the whole. Assumes nothing.
use Rattle.std.proofs.Common.{◌≡◌, ◌+◌, ◌*◌, ◌-◌, ◌<◌, ◌≤◌, drop}
use Rattle.rdp_repair.specs.Work.{options_in, inserts_of}
use Rattle.rdp_repair.proofs.repairing.count_inserts.Given as goal

abbrev pub invariant-loop-i : goal.invariant-loop-i
invariant-loop-i l =
    (l.hazards < 16) × (l.count ≤ l.i) × (l.count + inserts_of (options_in (l.commands - l.i) (drop (16 * l.i) l.work) l.hazards) ≡ inserts_of (options_in l.commands l.work 0))
