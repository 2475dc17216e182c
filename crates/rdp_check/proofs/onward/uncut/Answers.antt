-- `rdp_check::onward::uncut` meets its contract, by its test. Assumes nothing.
use Rattle.std.proofs.Common.{sym, ◌∙◌}
use Rattle.rdp_check.proofs.onward.uncut.Goals as goal

pub returns-then-is_cut : goal.returns-then-is_cut
returns-then-is_cut c = rw (sym c.is_cut.ensures ∙ c.if-is_cut.true)

pub returns : goal.returns
returns c = rw (sym c.is_cut.ensures ∙ c.if-is_cut.false)
