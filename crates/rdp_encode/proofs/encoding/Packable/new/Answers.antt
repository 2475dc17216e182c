use Rattle.std.proofs.Common.{sym, ◌∙◌}
use Rattle.rdp_encode.proofs.AnswerLaws.{fits-as}
use Rattle.rdp_encode.proofs.encoding.Packable.new.Goals as goal

pub invariant_of-result : goal.invariant_of-result
invariant_of-result c =
    record { small = c.requires; fit = sym (fits-as c.args.number c.args.numbers.now c.of.result.lines.now c.of.ensures c.fits.ensures) ∙ c.if-fits.true }

pub returns : goal.returns
returns c = sym (fits-as c.args.number c.args.numbers.now c.of.result.lines.now c.of.ensures c.fits.ensures) ∙ c.if-fits.false
