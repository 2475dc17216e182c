-- `rdp_hazards::table::step_table` meets its contract: one test, which antt computes over the whole table, says that it agrees with the rule. Assumes nothing.
use Rattle.rdp_words.specs.Kinds.{kind_of}
use Rattle.rdp_hazards.specs.Hazards.{next_of, required_of, entry_of}
use Rattle.rdp_hazards.proofs.HazardLaws.{agrees}
use Rattle.rdp_hazards.proofs.table.step_table.Goals as goal

pub invariant_of-result : goal.invariant_of-result
unfolding kind_of next_of required_of entry_of
invariant_of-result c = record { agrees = search agrees }
