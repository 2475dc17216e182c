-- `lanyardrove::lanyardrove_repair` meets its contract: the repair's cycles fit their bits. Assumes nothing.
use Rattle.lanyardrove.specs.Replies.{of_repair}
use Rattle.lanyardrove.proofs.BoundLaws.{small}
use Rattle.lanyardrove.proofs.lanyardrove_repair.Goals as goal

pub pack_repaired-requires : goal.pack_repaired-requires
pack_repaired-requires c = (small (of_repair c.repair-repaired.ensures)).third
