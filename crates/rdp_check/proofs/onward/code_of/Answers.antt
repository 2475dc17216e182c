-- `rdp_check::onward::code_of` meets its contract, by its test. Assumes nothing.
use Rattle.rdp_check.proofs.onward.code_of.Goals as goal

pub returns-then-set : goal.returns-then-set
returns-then-set c = rw c.if-set.true c.set_code.ensures

pub returns : goal.returns
returns c = rw c.if-set.false
