use borrow.Author.Tests.{eq-eqb, ne_eqb}
use Rattle.rdp_words.proofs.KindLaws.{words-one, words_long}
use Rattle.std.proofs.Common.{not, ap}
use Rattle.rdp_words.proofs.words_of.Goals as goal

pub returns-then-not-is_among : goal.returns-then-not-is_among
returns-then-not-is_among c = words-one _ c.ranges.number.fits _ c.is_among.ensures (ap not c.if-not-is_among.true)

pub returns-then-number-eq1 : goal.returns-then-number-eq1
returns-then-number-eq1 c =
    rw (eq-eqb _ _ c.if-number-eq1.true) at (words_long _ c.ranges.number.fits _ c.is_among.ensures (ap not c.if-not-is_among.false))

pub returns-then-number-eq18 : goal.returns-then-number-eq18
returns-then-number-eq18 c =
    rw (ne_eqb _ _ c.if-number-eq1.false, eq-eqb _ _ c.if-number-eq18.true) at
    (words_long _ c.ranges.number.fits _ c.is_among.ensures (ap not c.if-not-is_among.false))

pub returns : goal.returns
returns c =
    rw (ne_eqb _ _ c.if-number-eq1.false, ne_eqb _ _ c.if-number-eq18.false) at
    (words_long _ c.ranges.number.fits _ c.is_among.ensures (ap not c.if-not-is_among.false))
