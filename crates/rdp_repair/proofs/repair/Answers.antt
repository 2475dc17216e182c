-- `rdp_repair::repair` meets its contract: what either repair ensures, read as the first one's. Assumes nothing.
use Rattle.rdp_repair.specs.Repair.{LeastRepair}
use Rattle.rdp_repair.proofs.RepairLaws.{first-least, repairs-by}
use Rattle.rdp_repair.proofs.repair.Goals as goal

pub returns : goal.returns
returns c = repairs-by LeastRepair _ _ (first-least _) _ _ _ _ _ c.repair.ensures
