-- `lanyardrove::lanyardrove_repair_afresh` meets its contract: the repair's cycles fit their bits. Assumes nothing.
use Rattle.lanyardrove.specs.Replies.{of_afresh}
use Rattle.lanyardrove.proofs.BoundLaws.{small}
use Rattle.lanyardrove.proofs.lanyardrove_repair_afresh.Goals as goal

pub pack_repaired-requires : goal.pack_repaired-requires
pack_repaired-requires c = (small (of_afresh c.repair_afresh-renewed.ensures)).third
