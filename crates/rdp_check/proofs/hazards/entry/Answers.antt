-- `rdp_check::hazards::entry` meets its contract: the table agrees with the rule. Assumes nothing.
use Rattle.rdp_check.proofs.hazards.entry.Goals as goal

pub returns : goal.returns
returns c = let p = c.requires in c.args.table.now.agrees _ _ p.0 p.1
