use Rattle.std.proofs.Common.{◌≡◌, Bool, true, ◌&&◌, [], ◌∷◌, None, Some, arith, ap, sym, ◌∙◌}
use Rattle.std.proofs.lemmas.Option.{MatchOption-at_none, MatchOption-at_some}
use Rattle.rdp_command.specs.Commands.{command_of}
use Rattle.rdp_command.specs.Decode.{command_in}
use Rattle.rdp_encode.specs.Numbers.{numbers_fit, flags_agree}
use Rattle.rdp_encode.proofs.TableLaws.{layout-readable}
use Rattle.rdp_encode.proofs.LayoutLaws.{fields_back, packed_words}
use Rattle.rdp_encode.proofs.AnswerLaws.{fit_parts, accepted, misfit, too_large}
use Rattle.rdp_encode.proofs.encoding.packed_command.Goals.{After-flags_agree}
use Rattle.rdp_encode.proofs.encoding.packed_command.Goals as goal

-- once the numbers are known to fit
module _ (c : After-flags_agree) where
  same : (c.in_ok-packable.packable.number ≡ c.args.number) × (c.in_ok-packable.packable.numbers.now ≡ c.args.numbers.now)
  same =
      let some : c.new.result ≡ Some c.in_ok-packable.packable = grind arith in
      MatchOption-at_some _ _ c.in_ok-packable.packable some c.new.ensures

  fit : numbers_fit c.args.number c.args.numbers.now ≡ true
  fit = (λ i. numbers_fit (sym same.0 i) (sym same.1 i)) ∙ c.in_ok-packable.packable.fit

  flags : c.flags_agree.result ≡ flags_agree c.args.number c.args.numbers.now
  flags = c.flags_agree.ensures ∙ (λ i. flags_agree (same.0 i) (same.1 i))

pub returns-then-number-ge64 : goal.returns-then-number-ge64
returns-then-number-ge64 c = too_large c.args.number c.args.numbers.now c.if-number-ge64.true

pub returns-in_err-packable : goal.returns-in_err-packable
returns-in_err-packable c =
    let n = c.args.number in
    let ns = c.args.numbers.now in
    let none : c.new.result ≡ None = grind arith in
    rw c.from_residual.ensures
    (misfit n ns c.if-number-ge64.false (ap (λ (b : Bool). b && flags_agree n ns) (MatchOption-at_none _ _ none c.new.ensures)))

pub returns-then-not-flags_agree : goal.returns-then-not-flags_agree
returns-then-not-flags_agree c =
    let at = (goal.at.returns-then-not-flags_agree c).After-flags_agree in
    misfit c.args.number c.args.numbers.now c.if-number-ge64.false (λ i. fit at i && (sym (flags at) ∙ c.if-not-flags_agree.true) i)

pub returns : goal.returns
returns c =
    let at = (goal.at.returns c).After-flags_agree in
    let n = c.args.number in
    let ns = c.args.numbers.now in
    let small = c.if-number-ge64.false in
    let agree = sym (flags at) ∙ c.if-not-flags_agree.false in
    let parts = fit_parts n ns (fit at) in
    let words : packed_words c.in_ok-packable.packable.number c.in_ok-packable.packable.numbers.now ≡ packed_words n ns = λ i. packed_words ((same at).0 i) ((same at).1 i) in
    accepted n ns small (λ i. fit at i && agree i)
    ((λ i. command_in n (c.word.ensures i ∷ c.word-2.ensures i ∷ c.word-3.ensures i ∷ c.word-4.ensures i ∷ [])) ∙
    ap (command_in n) words ∙
    ap (command_of n) (fields_back n ns small (layout-readable n small) (sym parts.0) (λ k. (c.type_inv.numbers k).fits) parts.1))
