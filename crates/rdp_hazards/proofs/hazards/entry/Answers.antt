-- `rdp_hazards::hazards::entry` meets its contract: the remainders keep the index inside the table. Assumes nothing.
use borrow.Author.Rules.{rules}
use Rattle.rdp_hazards.specs.Hazards.{entry_at}
use Rattle.rdp_hazards.proofs.hazards.entry.Goals as goal

pub returns : goal.returns
unfolding entry_at
returns c = search rules
