use Prim.Native.Nat.{ℕ, ◌-◌, ◌*◌, ◌≤◌, ◌<◌}
use mathlib.Core.Path.{◌≡◌, refl, ap}
use native.Mathlib.Omega.{arith}
use borrow.Author.Tests.{lt-ltb, le-ltb}
use lib.ListN.{take, drop}
use Rattle.rdp_words.specs.Lengths.{whole_words, suffix_words, suffix_start, suffix_of}
use borrow.Author.Rules.{rules}
use Rattle.rdp_words.proofs.suffix.Goals as goal

pub returns-then-n-le4 : goal.returns-then-n-le4
unfolding suffix_of suffix_start
returns-then-n-le4 c =
    let list = c.args.list.now in
    let short : whole_words list ≤ 4 = rw c.whole_words-n.ensures.0 at c.if-n-le4.true in
    let none : 8 * suffix_words (whole_words list) ≡ 0 = omega arith in
    record { bytes = rw none; block = refl; offset = rw (le-ltb _ _ short) (search rules) }

pub returns : goal.returns
unfolding suffix_of suffix_start
returns c =
    let list = c.args.list.now in
    let n = c.whole_words-n.ensures.0 in
    let more : 4 < whole_words list = rw n at c.if-n-le4.false in
    let due : 8 * c.whole_words-n.result - 32 ≡ 8 * suffix_words (whole_words list) = omega (arith, n) in
    record { bytes = rw (lt-ltb _ _ more) (ap (λ (k : ℕ). take k (drop 32 list)) due); block = refl; offset = rw (lt-ltb _ _ more) (search rules) }
