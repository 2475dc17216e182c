use Rattle.std.proofs.Common.{◌≡◌, ℕ, ◌*◌, ◌/◌, List, true, false, ◌&&◌, eqb, leb, Some, None, length, arith, ap, sym, ◌∙◌}
use Rattle.std.proofs.lemmas.Option.{MatchOption-at_none, MatchOption-at_some}
use Rattle.std.proofs.lemmas.Result.{err_from_is_err_and}
use Rattle.rdp_words.specs.Words.{overwrite}
use Rattle.rdp_words.specs.Kinds.{words_of}
use Rattle.rdp_words.specs.Grounds.{Answer}
use Rattle.rdp_words.specs.Lengths.{suffix_words}
use Rattle.rdp_words.specs.declared.grounds.Ground.TheVariants.{NotEncodable}
use Rattle.rdp_encode.specs.Encode.{verdict_of, has_room, answer_with, out_with, bytes_with}
use Rattle.rdp_encode.specs.Numbers.{numbers_fit}
use Rattle.rdp_encode.specs.Steps.{encodable_by}
use Rattle.rdp_words.proofs.KindLaws.{words-most}
use Rattle.rdp_encode.proofs.AnswerLaws.{unfit-by}
use Rattle.rdp_encode.proofs.encoding.write_command.Goals.{After-suffix_len, After-branch-packable}
use Rattle.rdp_encode.proofs.encoding.write_command.Goals as goal

unfit-at : (c : After-branch-packable) → c.new.result ≡ None → numbers_fit c.args.number c.args.numbers.now ≡ false
unfit-at c none = MatchOption-at_none _ _ none c.new.ensures

-- once the numbers are known to fit
module _ (c : After-suffix_len) where
  abbrev n : ℕ
  n = c.args.number

  abbrev ns : List ℕ
  ns = c.args.numbers.now

  abbrev suffix : List ℕ
  suffix = c.args.suffix.now

  abbrev out : List ℕ
  out = c.args.out.now

  same : (c.in_ok-packable.packable.number ≡ n) × (c.in_ok-packable.packable.numbers.now ≡ ns)
  same =
      let some : c.new.result ≡ Some c.in_ok-packable.packable = grind arith in
      MatchOption-at_some _ _ c.in_ok-packable.packable some c.new.ensures

  fit : numbers_fit n ns ≡ true
  fit = (λ i. numbers_fit (sym same.0 i) (sym same.1 i)) ∙ c.in_ok-packable.packable.fit

  -- the tests of the code are those of the definition
  by_suffix : eqb (length suffix) c.suffix_len.result ≡ encodable_by n ns suffix
  by_suffix = rw fit (ap (eqb (length suffix)) (c.suffix_len.ensures ∙ ap (λ (k : ℕ). 8 * suffix_words k) c.words_of-n.ensures))

  by-room : leb c.words_of-n.result (length out / 8) ≡ has_room n out
  by-room = ap (λ (k : ℕ). leb k (length out / 8)) c.words_of-n.ensures

  tests : (eqb (length suffix) c.suffix_len.result && leb c.words_of-n.result (length out / 8)) ≡ encodable_by n ns suffix && has_room n out
  tests = λ i. by_suffix i && by-room i

  by_code :
      {a : Answer} → a ≡ verdict_of (eqb (length suffix) c.suffix_len.result) (leb c.words_of-n.result (length out / 8)) c.words_of-n.result →
      a ≡ verdict_of (encodable_by n ns suffix) (has_room n out) (words_of n)
  by_code e = e ∙ (λ i. verdict_of (by_suffix i) (by-room i) (c.words_of-n.ensures i))

pub returns-in_err-packable : goal.returns-in_err-packable
returns-in_err-packable c =
    let p = err_from_is_err_and c.from_residual.result c.from_residual.ensures.1 in
    let r : c.in_err-packable.field-0.0 ≡ record { ground = NotEncodable; place = 0 } = grind arith in
    let unfit = unfit-at (goal.at.returns-in_err-packable c).After-branch-packable (grind arith) in
    let a = unfit-by c.args.number c.args.numbers.now c.args.suffix.now c.args.out.now unfit in
    record { answer = rw (p.1, p.2, r) a.0; output = a.1 }

pub suffix_len-requires : goal.suffix_len-requires
suffix_len-requires c = rw c.words_of-n.ensures (words-most c.args.number c.requires)

pub verdict-requires : goal.verdict-requires
verdict-requires c = rw c.words_of-n.ensures (words-most c.args.number c.requires)

pub returns-in_err-count : goal.returns-in_err-count
unfolding answer_with out_with
returns-in_err-count c =
    let at = (goal.at.returns-in_err-count c).After-suffix_len in
    let p = err_from_is_err_and c.from_residual-in_err-count.result c.from_residual-in_err-count.ensures.1 in
    record { answer = rw (p.1, p.2) (by_code at c.in_err-count.ensures.answer); output = rw (sym (tests at) ∙ sym c.in_err-count.ensures.whole) }

pub returns : goal.returns
unfolding answer_with out_with
returns c =
    let at = (goal.at.returns c).After-suffix_len in
    let s = same at in
    record {
      answer = by_code at c.in_ok-count.ensures.answer;
      output = rw (sym (tests at) ∙ sym c.in_ok-count.ensures.whole) (c.write_whole.ensures ∙ (λ i. overwrite (bytes_with (s.0 i) (s.1 i) (suffix at)) (out at)));
    }
