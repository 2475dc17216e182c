-- `rdp_repair::repair_afresh` meets its contract: what either repair ensures, read as the second one's. Assumes nothing.
use Rattle.rdp_repair.specs.Afresh.{LeastAfresh}
use Rattle.rdp_repair.proofs.RepairLaws.{second-least, repairs-by}
use Rattle.rdp_repair.proofs.repair_afresh.Goals as goal

pub returns : goal.returns
returns c = repairs-by LeastAfresh _ _ (second-least _) _ _ _ _ _ c.repair.ensures
