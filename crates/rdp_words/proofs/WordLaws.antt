-- Words read back from the bytes that were written. Assumes nothing.
use Prim.Native.Nat.{ℕ, ◌+◌, ◌*◌, ◌/◌, ◌%◌, ◌^◌, ◌≤◌, ◌<◌}
use mathlib.Core.List.{List, [], ◌∷◌, ◌++◌}
use mathlib.Core.Path.{◌≡◌, refl, ap, sym, ◌∙◌}
use native.Mathlib.Nat.{mod-eq_of_lt}
use native.Mathlib.Omega.{arith}
use borrow.Author.Tests.{lt-ltb}
use lib.ListN.{length, drop, length-append, length-drop}
use lib.Pow.{mod-pow-add, split, shr-shr, shr_lt}
use lib.Seq.{drop-append-le}
use Rattle.rdp_words.specs.Words.{half_of, word_of, word_at, bytes_of}

regroup : (a b c d : ℕ) → a + (b + (c + d)) ≡ a + b + c + d
regroup a b c d = omega arith

-- four bytes of a number
four : (x : ℕ) → x / 2 ^ 24 % 256 * 2 ^ 24 + x / 2 ^ 16 % 256 * 2 ^ 16 + x / 2 ^ 8 % 256 * 2 ^ 8 + x % 256 ≡ x % 2 ^ 32
four x =
    sym
    (mod-pow-add x 8 24 ∙
    ap (λ (r : ℕ). x / 2 ^ 24 % 256 * 2 ^ 24 + r) (mod-pow-add x 8 16 ∙ ap (λ (r : ℕ). x / 2 ^ 16 % 256 * 2 ^ 16 + r) (mod-pow-add x 8 8)) ∙
    regroup (x / 2 ^ 24 % 256 * 2 ^ 24) (x / 2 ^ 16 % 256 * 2 ^ 16) (x / 2 ^ 8 % 256 * 2 ^ 8) (x % 256))

high_half : (w : ℕ) (rest : List ℕ) → w < 2 ^ 64 → half_of (bytes_of w ++ rest) ≡ w / 2 ^ 32
unfolding half_of
high_half w rest h =
    (λ i. sym (shr-shr w 32 24) i % 256 * 2 ^ 24 + sym (shr-shr w 32 16) i % 256 * 2 ^ 16 + sym (shr-shr w 32 8) i % 256 * 2 ^ 8 + w / 2 ^ 32 % 256) ∙
    four (w / 2 ^ 32) ∙
    mod-eq_of_lt (shr_lt 32 32 h)

low_half : (w : ℕ) (rest : List ℕ) → half_of (drop 4 (bytes_of w ++ rest)) ≡ w % 2 ^ 32
unfolding half_of
low_half w rest = four w

pub word_back : (w : ℕ) (rest : List ℕ) → w < 2 ^ 64 → word_of (bytes_of w ++ rest) ≡ w
word_back w rest h = (λ i. high_half w rest h i * 2 ^ 32 + low_half w rest i) ∙ split w 32

pub word-whole : (bs : List ℕ) (k : ℕ) → k < length bs / 8 → word_at bs k ≡ word_of (drop (8 * k) bs)
unfolding word_at
word-whole bs k h = rw (lt-ltb _ _ h)

half-front : (bs more : List ℕ) → 4 ≤ length bs → half_of (bs ++ more) ≡ half_of bs
unfolding half_of
half-front [] more h = absurd (omega arith)
half-front (a ∷ []) more h = absurd (omega arith)
half-front (a ∷ b ∷ []) more h = absurd (omega arith)
half-front (a ∷ b ∷ c ∷ []) more h = absurd (omega arith)
half-front (a ∷ b ∷ c ∷ d ∷ bs) more h = refl

-- a whole word of a list, whatever follows the list
pub word-front : (bs more : List ℕ) (k : ℕ) → k < length bs / 8 → word_at (bs ++ more) k ≡ word_at bs k
word-front bs more k h =
    let rest = drop (8 * k) bs in
    let long : 8 ≤ length rest = omega (arith, length-drop (8 * k) bs) in
    let low : 4 ≤ length (drop 4 rest) = omega (arith, length-drop 4 rest) in
    word-whole (bs ++ more) k (omega (arith, length-append bs more)) ∙
    ap word_of (drop-append-le (8 * k) bs more (omega arith)) ∙
    (λ i. half-front rest more (omega arith) i * 2 ^ 32 + (ap half_of (drop-append-le 4 rest more (omega arith)) ∙ half-front (drop 4 rest) more low) i) ∙
    sym (word-whole bs k h)
