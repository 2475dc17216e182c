-- `rdp_hazards::hazards::next` meets its contract: the remainders keep the index inside the table. Assumes nothing.
use borrow.Author.Rules.{rules}
use Rattle.rdp_hazards.specs.Hazards.{next_by}
use Rattle.rdp_hazards.proofs.hazards.next.Goals as goal

pub returns : goal.returns
unfolding next_by
returns c = search rules
