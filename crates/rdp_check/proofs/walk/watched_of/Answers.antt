-- `rdp_check::walk::watched_of` meets its contract, by one test over the command numbers for each constant. Assumes nothing.
use Rattle.std.proofs.Common.{ap, sym, ◌∙◌}
use Rattle.rdp_words.specs.Grounds.{number_if}
use Rattle.rdp_check.proofs.ViewLaws.{watches-all, watches-setters, watches-draws}
use Rattle.rdp_words.proofs.GroundLaws.{refused-number}
use Rattle.rdp_check.proofs.walk.watched_of.Goals as goal

pub returns-then-rest : goal.returns-then-rest
returns-then-rest c = watches-all c.args.rest c.if-rest.true

pub returns-in-None : goal.returns-in-None
returns-in-None c = watches-setters c.args.rest c.if-rest.false (sym c.draw_refusal.ensures ∙ ap number_if c.in-None.is)

pub returns-in-Some : goal.returns-in-Some
returns-in-Some c =
    watches-draws c.args.rest c.if-rest.false (λ z. refused-number _ (sym (ap number_if c.in-Some.is) ∙ c.draw_refusal.ensures ∙ z))
