-- `rdp_repair::repairing::backward` meets its contract: the choices stand from command i on, and the totals are those from i on. Assumes nothing.
use Rattle.std.proofs.Common.{◌≡◌, drop}
use Rattle.rdp_repair.specs.Best.{best}
use Rattle.rdp_repair.specs.Work.{tabulate, noted_in}
use Rattle.rdp_repair.proofs.BackLaws.{back_to}
use Rattle.rdp_repair.proofs.repairing.backward.Given as goal

abbrev pub invariant-loop-i : goal.invariant-loop-i
invariant-loop-i l =
    (l.work ≡ back_to l.initial.work l.commands l.i) × (l.totals ≡ tabulate 16 (best (drop l.i (noted_in l.initial.work l.commands))))
