use Rattle.std.proofs.Common.{sym, ◌∙◌}
use Rattle.rdp_compare.proofs.DifferingLaws.{other-numbers, of-same-bytes}
use Rattle.rdp_compare.proofs.entries.compared.Goals as goal

pub returns-then-n-m : goal.returns-then-n-m
returns-then-n-m c = other-numbers c.args.first.now c.args.second.now (λ e. c.if-n-m.true (c.number_at-n.ensures ∙ e ∙ sym c.number_at-m.ensures))

pub returns-then-same : goal.returns-then-same
returns-then-same c = of-same-bytes c.args.first.now c.args.second.now (sym c.same.ensures ∙ c.if-same.true)
