-- What stands at a place of a list: its word, and the words of the command that begins there. Assumes nothing.
use Prim.Native.Nat.{ℕ, ◌+◌, ◌*◌, ◌/◌, ◌%◌, ◌^◌, ◌≤◌, ◌<◌}
use mathlib.Core.Bool.{cond}
use mathlib.Core.List.{List}
use mathlib.Core.Path.{◌≡◌, ap, sym, ◌∙◌}
use native.Mathlib.Nat.{mod-lt}
use native.Mathlib.Omega.{arith}
use borrow.Author.Tests.{lt-ltb, le-ltb, ltb-true, ltb-false}
use lib.Dec.{ltb, lit<, eqb, eqb→eq}
use lib.ListN.{length, drop, length-drop}
use Rattle.rdp_words.specs.Words.{word_at, number_in}
use Rattle.rdp_words.specs.Kinds.{between, kind_of, words_of}
use Rattle.rdp_words.specs.Lengths.{first_number, bit, command_words, whole_words}
use Rattle.rdp_words.proofs.Tests.{below, by-test}
use Rattle.rdp_words.proofs.KindLaws.{words-pos}

-- the number of a word is below 64
pub number_small : (w : ℕ) → number_in w < 64
number_small w = mod-lt (w / 2 ^ 56) (lit< tt)

-- ---- #102: the words by the bits of the first word

-- the words by the bits of the number: one test over the numbers
abbrev words_by_bits : ℕ → ℕ
words_by_bits n = cond (between 0x08 0x0F n) (4 + 8 * (n / 4 % 2) + 8 * (n / 2 % 2) + 2 * (n % 2)) (words_of n)

words-by-bits : (n : ℕ) → n < 64 → words_of n ≡ words_by_bits n
unfolding words_of kind_of
words-by-bits n h = eqb→eq _ _ (below 64 (λ k. eqb (words_of k) (words_by_bits k)) tt n h)

bit-58 : (w : ℕ) → w / 2 ^ 56 % 64 / 4 % 2 ≡ bit 58 w
bit-58 w = omega arith

bit-57 : (w : ℕ) → w / 2 ^ 56 % 64 / 2 % 2 ≡ bit 57 w
bit-57 w = omega arith

bit-56 : (w : ℕ) → w / 2 ^ 56 % 64 % 2 ≡ bit 56 w
bit-56 w = omega arith

-- bits 58, 57 and 56 are those of the number
pub command-words : (w : ℕ) → words_of (number_in w) ≡ command_words w
unfolding command_words
command-words w =
    words-by-bits (number_in w) (number_small w) ∙
    (λ i. cond (between 0x08 0x0F (number_in w)) (4 + 8 * bit-58 w i + 8 * bit-57 w i + 2 * bit-56 w i) (words_of (number_in w)))

-- ---- the words of a list

-- the first word after k words is word k
pub word-drop : (bs : List ℕ) (k : ℕ) → word_at (drop (8 * k) bs) 0 ≡ word_at bs k
unfolding word_at
word-drop bs k =
    by-test (ltb k (length bs / 8))
    (λ t.
    let h : k < length bs / 8 = ltb-true k (length bs / 8) t in
    let r : 0 < length (drop (8 * k) bs) / 8 = omega (arith, length-drop (8 * k) bs) in
    rw (t, lt-ltb _ _ r))
    (λ f.
    let h : length bs / 8 ≤ k = ltb-false k (length bs / 8) f in
    let r : length (drop (8 * k) bs) / 8 ≤ 0 = omega (arith, length-drop (8 * k) bs) in
    rw (f, le-ltb _ _ r))

-- the words of the first command are all there, or some are not
pub words-there : (bs : List ℕ) → words_of (first_number bs) ≤ length bs / 8 → whole_words bs ≡ words_of (first_number bs)
unfolding whole_words
words-there bs h = rw (le-ltb _ _ h)

pub words-cut : (bs : List ℕ) → length bs / 8 < words_of (first_number bs) → whole_words bs ≡ 0
unfolding whole_words
words-cut bs h = rw (lt-ltb _ _ h)

-- where they are all there, they are as many as the number says, at least one, and lie in the list
pub record IsWhole (bs : List ℕ) : Type 0 where
  pub words : whole_words bs ≡ words_of (first_number bs)
  pub some : 1 ≤ whole_words bs
  pub inside : 8 * whole_words bs ≤ length bs

pub is_whole : (bs : List ℕ) → (whole_words bs ≡ 0 → ⊥) → IsWhole bs
is_whole bs there =
    by-test (ltb (length bs / 8) (words_of (first_number bs)))
    (λ t. absurd (there (words-cut bs (ltb-true _ _ t))))
    (λ f.
    let h : words_of (first_number bs) ≤ length bs / 8 = ltb-false _ _ f in
    let e : whole_words bs ≡ words_of (first_number bs) = words-there bs h in
    record { words = e; some = omega (arith, words-pos (first_number bs) (number_small (word_at bs 0))); inside = omega arith })

-- a command at a place
module _ (bs : List ℕ) (at n : ℕ) (is : n ≡ number_in (word_at bs at)) where
  pub some_words : 1 ≤ words_of n
  some_words = rw is (words-pos _ (number_small (word_at bs at)))

  pub number_at : first_number (drop (8 * at) bs) ≡ n
  number_at = ap number_in (word-drop bs at) ∙ sym is

  pub there-at : at + words_of n ≤ length bs / 8 → whole_words (drop (8 * at) bs) ≡ words_of n
  there-at h =
      words-there (drop (8 * at) bs) (rw number_at (omega (arith, length-drop (8 * at) bs))) ∙ ap words_of number_at

  pub cut_at : length bs / 8 < at + words_of n → whole_words (drop (8 * at) bs) ≡ 0
  cut_at h = words-cut (drop (8 * at) bs) (rw number_at (omega (arith, some_words, length-drop (8 * at) bs)))
