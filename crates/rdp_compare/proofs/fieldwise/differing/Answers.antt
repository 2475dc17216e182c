use Rattle.std.proofs.Common.{◌≡◌, Bool, length, sym, ap, ◌∙◌, arith}
use Rattle.rdp_words.specs.Words.{same_bytes}
use Rattle.rdp_words.specs.Lengths.{suffix_of}
use Rattle.rdp_compare.proofs.WordLaws.{pointwise-same}
use Rattle.rdp_compare.proofs.DifferingLaws.{as_many, of-suffix}
use Rattle.rdp_compare.proofs.fieldwise.differing.Goals.{After-eq}
use Rattle.rdp_compare.proofs.fieldwise.differing.Goals as goal

pub field_bits-bits-requires : goal.field_bits-bits-requires
field_bits-bits-requires c =
    let one = c.numbers_of-firsts.ensures in
    let two = c.numbers_of-seconds.ensures in
    (ap length one.0 ∙ as_many c.requires ∙ sym (ap length two.0), one.1)

-- what the comparison of the suffixes says
suffixes : (c : After-eq) (s : Bool) → c.eq.result ≡ s → same_bytes (suffix_of c.args.first.now) (suffix_of c.args.second.now) ≡ s
suffixes c s e =
    (λ i. same_bytes (sym c.suffix.ensures.bytes i) (sym c.suffix-2.ensures.bytes i)) ∙
    sym (pointwise-same c.suffix.result.now c.suffix-2.result.now) ∙
    sym c.eq.ensures ∙ e

pub returns-then-eq : goal.returns-then-eq
returns-then-eq c =
    let d = of-suffix c.requires c.numbers_of-firsts.ensures.0 c.numbers_of-seconds.ensures.0 c.field_bits-bits.ensures.0 _ (suffixes (goal.at.returns-then-eq c).After-eq _ c.if-eq.true) in
    omega (arith, d)

pub returns : goal.returns
returns c =
    let d = of-suffix c.requires c.numbers_of-firsts.ensures.0 c.numbers_of-seconds.ensures.0 c.field_bits-bits.ensures.0 _ (suffixes (goal.at.returns c).After-eq _ c.if-eq.false) in
    omega (arith, d, c.bit_of.ensures.0)
