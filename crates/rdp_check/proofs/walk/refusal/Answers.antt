-- `rdp_check::walk::refusal` meets its contract: the refusals are tested in their order. Assumes nothing.
use Rattle.std.proofs.Common.{ap, sym, ◌∙◌}
use Rattle.rdp_words.specs.Grounds.{number_if}
use Rattle.rdp_check.specs.View.{refusal_with}
use Rattle.rdp_check.proofs.ViewLaws.{or-else}
use Rattle.rdp_words.proofs.GroundLaws.{refused-number}
use Rattle.rdp_check.proofs.walk.refusal.Goals as goal

pub returns-then-ended : goal.returns-then-ended
unfolding refusal_with
returns-then-ended c = rw c.if-ended.true

pub returns-in-Some : goal.returns-in-Some
unfolding refusal_with
returns-in-Some c = rw c.if-ended.false (or-else (number_if c.args.own) _ (λ z. refused-number _ (sym (ap number_if c.in-Some.is) ∙ z)))

pub returns-in-None : goal.returns-in-None
unfolding refusal_with
returns-in-None c = rw (c.if-ended.false, c.in-None.is) c.missing.ensures
