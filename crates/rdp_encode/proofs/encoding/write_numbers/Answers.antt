use Rattle.std.proofs.Common.{◌≡◌, Bool, None, Some, arith, ap, sym, ◌∙◌}
use Rattle.std.proofs.lemmas.Result.{err_from_is_err_and}
use Rattle.rdp_words.specs.declared.grounds.Ground.TheVariants.{NotEncodable}
use Rattle.rdp_command.specs.Commands.{number_of}
use Rattle.rdp_encode.specs.Encode.{answer_with, out_with, encoded_bytes}
use Rattle.rdp_encode.specs.Steps.{answer_by, out_by}
use Rattle.rdp_encode.proofs.AnswerLaws.{unfit}
use Rattle.rdp_encode.proofs.Spreading.{given, missing, encodable-by, not-encodable}
use Rattle.rdp_encode.proofs.encoding.write_numbers.Goals as goal

pub returns-in_err-number-clause-answer : goal.returns-in_err-number-clause-answer
returns-in_err-number-clause-answer c = λ command s.
    let p = err_from_is_err_and c.from_residual.result c.from_residual.ensures.1 in
    let none : c.args.numbered.now.number ≡ None = grind arith in
    let r : c.in_err-number.field-0.0 ≡ record { ground = NotEncodable; place = 0 } = grind arith in
    rw (p.1, p.2, r) ((unfit (not-encodable command c.args.suffix.now (missing command _ s none)) (number_of command) (encoded_bytes command c.args.suffix.now) c.args.out.now).0)

pub returns-in_err-number-clause-output : goal.returns-in_err-number-clause-output
returns-in_err-number-clause-output c = λ command s.
    let none : c.args.numbered.now.number ≡ None = grind arith in
    (unfit (not-encodable command c.args.suffix.now (missing command _ s none)) (number_of command) (encoded_bytes command c.args.suffix.now) c.args.out.now).1

pub returns-clause-answer : goal.returns-clause-answer
returns-clause-answer c = λ command s.
    let suffix = c.args.suffix.now in
    let out = c.args.out.now in
    let some : c.args.numbered.now.number ≡ Some c.in_ok-number.number = grind arith in
    let g = given command _ s some in
    let ns = c.as_slice.ensures.0 ∙ s.numbers in
    c.write_command.ensures.answer ∙ (λ i. answer_by (g.1 i) (ns i) suffix out) ∙
    ap (λ (b : Bool). answer_with b (number_of command) out) (sym (encodable-by command _ s suffix g.0))

pub returns-clause-output : goal.returns-clause-output
returns-clause-output c = λ command s.
    let suffix = c.args.suffix.now in
    let out = c.args.out.now in
    let some : c.args.numbered.now.number ≡ Some c.in_ok-number.number = grind arith in
    let g = given command _ s some in
    let ns = c.as_slice.ensures.0 ∙ s.numbers in
    c.write_command.ensures.output ∙ (λ i. out_by (g.1 i) (ns i) suffix out) ∙
    ap (λ (b : Bool). out_with b (number_of command) (encoded_bytes command suffix) out) (sym (encodable-by command _ s suffix g.0))
