use Rattle.std.proofs.Common.{ℕ, List, ap, ◌∙◌}
use Rattle.rdp_encode.specs.Numbers.{fields_answer, fields_out}
use Rattle.rdp_encode.specs.Steps.{values_answer, values_out}
use Rattle.rdp_encode.proofs.fields.Goals as goal

pub returns-clause-answer : goal.returns-clause-answer
unfolding fields_answer
returns-clause-answer c =
    c.write_values.ensures.answer ∙ ap (λ (ns : List ℕ). values_answer ns c.args.out.now) (c.as_slice.ensures.0 ∙ c.spread.ensures.numbers)

pub returns-clause-output : goal.returns-clause-output
unfolding fields_out
returns-clause-output c =
    c.write_values.ensures.output ∙ ap (λ (ns : List ℕ). values_out ns c.args.out.now) (c.as_slice.ensures.0 ∙ c.spread.ensures.numbers)
