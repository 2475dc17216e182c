-- The kinds and words of command numbers, each rule by one test over the numbers. Assumes nothing.
use Prim.Native.Nat.{ℕ, zero, suc, ◌+◌, ◌*◌, ◌/◌, ◌%◌, ◌^◌, ◌≤◌, ◌<◌}
use mathlib.Core.Bool.{Bool, true, false, cond, not, ◌&&◌, ◌||◌, true≢false, false≢true}
use mathlib.Core.List.{List, [], ◌∷◌, ◌++◌}
use mathlib.Core.Path.{◌≡◌, refl, ap, sym, subst, ◌∙◌}
use native.Mathlib.Nat.{add-zero, zero-add, mod-eq_of_lt, not-suc-le-zero, le_of_suc-le-suc}
use native.Mathlib.Omega.{arith}
use lib.ListN.{get_or, replicate}
use borrow.Author.Tests.{leb-true, eqb-true}
use lib.Dec.{T, eqb, leb, eqb→eq, leb→le}
use Rattle.rdp_words.specs.Kinds.{Kind, no_operation, unassigned, triangle, texture_rectangle, fill_rectangle, sync_load, sync_tile, sync_pipe, sync_full, load, set_tile, attribute, free, between, among, kind_of, is_no_operation, is_unassigned, is_draw, has_bit, is_among, words_of_kind, words_of}
use Rattle.rdp_words.proofs.Tests.{each, below, both, and-true, or_cases, same, same_bool, false_of}

-- command numbers as the bits of a number
pub bits-by : (numbers : ℕ) (f : ℕ → Bool) → T (each (λ k. same (has_bit (2 ^ k) numbers) (f k)) 64) → (n : ℕ) → n < 64 → has_bit (2 ^ n) numbers ≡ f n
bits-by numbers f t n h = same_bool _ _ (below 64 (λ k. same (has_bit (2 ^ k) numbers) (f k)) t n h)

pub among-by : (numbers : ℕ) (f : ℕ → Bool) → T (each (λ k. same (has_bit (2 ^ k) numbers) (f k)) 64) → (n : ℕ) → n < 64 → is_among numbers n ≡ f n
among-by numbers f t n h = ap (λ (k : ℕ). has_bit (2 ^ k) numbers) (mod-eq_of_lt h) ∙ bits-by numbers f t n h

-- the draws as the code has them
pub draws-among : (n : ℕ) → n < 64 → is_among 0x0040_0030_0000_FF00 n ≡ is_draw (kind_of n)
unfolding kind_of
draws-among = among-by _ (λ n. is_draw (kind_of n)) tt

-- the numbers of the draws: triangles, texture rectangles and the fill rectangle
pub draw-numbers : (n : ℕ) → n < 64 → is_draw (kind_of n) ≡ eqb (n / 8) 1 || among n (0x24 ∷ 0x25 ∷ 0x36 ∷ [])
unfolding kind_of
draw-numbers n h = same_bool _ _ (below 64 (λ k. same (is_draw (kind_of k)) (eqb (k / 8) 1 || among k (0x24 ∷ 0x25 ∷ 0x36 ∷ []))) tt n h)

-- ---- the table by number

-- the kinds of the numbers from n on
kinds_from : ℕ → ℕ → List Kind
kinds_from n zero = []
kinds_from n (suc k) = kind_of n ∷ kinds_from (suc n) k

kinds-from : (n k i : ℕ) → i < k → get_or (kinds_from n k) i free ≡ kind_of (n + i)
unfolding kinds_from
kinds-from n zero i h = absurd (not-suc-le-zero h)
kinds-from n (suc k) zero h = ap kind_of (sym (add-zero n))
kinds-from n (suc k) (suc i) h = let e : suc n + i ≡ n + suc i = omega arith in kinds-from (suc n) k i (le_of_suc-le-suc h) ∙ ap kind_of e

-- the kinds of the 64 numbers in their order
abbrev pub kinds : List Kind
kinds =
    no_operation ∷ replicate 7 unassigned ++
    (replicate 8 triangle ++
    (replicate 20 unassigned ++
    texture_rectangle ∷ texture_rectangle ∷ sync_load ∷ sync_pipe ∷ sync_tile ∷ sync_full ∷  -- 0x24
    attribute ∷ attribute ∷ attribute ∷ free ∷ free ∷ attribute ∷  -- 0x2A
    load ∷ unassigned ∷ free ∷ load ∷ load ∷ set_tile ∷ fill_rectangle ∷  -- 0x30
    attribute ∷ attribute ∷ attribute ∷ free ∷ attribute ∷ attribute ∷ free ∷ attribute ∷ attribute ∷ []))  -- 0x37

abbrev pub kind_at : ℕ → Kind
kind_at n = get_or kinds n free

kinds-are : kinds ≡ kinds_from 0 64
unfolding kinds_from kind_of
kinds-are = refl

-- a test of kind and number that passes at the 64 numbers passes at each: it computes without the definition of kinds
pub by-kinds : (f : Kind → ℕ → Bool) → T (each (λ k. f (kind_at k) k) 64) → (n : ℕ) → n < 64 → T (f (kind_of n) n)
by-kinds f t n h =
    subst (λ (k : Kind). T (f k n)) (ap (λ (ks : List Kind). get_or ks n free) kinds-are ∙ kinds-from 0 64 n h ∙ ap kind_of (zero-add n))
    (below 64 (λ k. f (kind_at k) k) t n h)

-- the words of a number by its kind
pub words-of-kind : (n : ℕ) → words_of n ≡ words_of_kind (kind_of n) n
unfolding words_of
words-of-kind n = refl

-- ---- unassigned numbers and words

-- a number of these two rows is a command number
pub no-operation-small : (n : ℕ) → is_no_operation n ≡ true → n < 64
no-operation-small n e = omega (arith, eqb-true n 0x00 e)

between-small : (low high n : ℕ) → between low high n ≡ true → n ≤ high
between-small low high n e = leb-true n high (and-true (leb low n) (leb n high) e).1

pub unassigned-small : (n : ℕ) → is_unassigned n ≡ true → n < 64
unassigned-small n e =
    or_cases (between 0x01 0x07 n || between 0x10 0x23 n) (eqb n 0x31) e
    (λ f.
    or_cases (between 0x01 0x07 n) (between 0x10 0x23 n) f (λ g. omega (arith, between-small 0x01 0x07 n g))
    (λ g. omega (arith, between-small 0x10 0x23 n g)))
    (λ f. omega (arith, eqb-true n 0x31 f))

-- the unassigned numbers as the code has them
pub unassigned-among : (n : ℕ) → n < 64 → is_among 0x0002_000F_FFFF_00FE n ≡ is_unassigned n
unassigned-among = among-by _ is_unassigned tt

-- an unassigned number is no draw
pub unassigned-apart : (n : ℕ) → n < 64 → is_unassigned n ≡ true → is_draw (kind_of n) ≡ false
unassigned-apart n h e =
    let t = by-kinds (λ k m. not (is_unassigned m) || not (is_draw k)) tt n h in
    false_of (is_draw (kind_of n)) (rw e at t)

-- the words as the code has them
abbrev pub long_words : ℕ → ℕ
long_words n = cond (eqb (n / 8) 1) (0x1614_0E0C_0E0C_0604 / 2 ^ (n % 8 * 8) % 256) (cond (eqb (n / 2) 0x12) 2 1)

abbrev words_by : ℕ → ℕ
words_by n = cond (is_among 0x0000_0030_0000_FF00 n) (long_words n) 1

words-by : (n : ℕ) → n < 256 → words_by n ≡ words_of n
unfolding words_of kind_of
words-by n h = eqb→eq _ _ (below 256 (λ k. eqb (words_by k) (words_of k)) tt n h)

-- by what the test of the longer commands answers: one word, or those of the constants
words-tested :
    (n : ℕ) → n < 256 → (b : Bool) → b ≡ is_among 0x0000_0030_0000_FF00 n →
    cond b (long_words n) 1 ≡ words_of n
words-tested n h b e = rw e (words-by n h)

pub words-one : (n : ℕ) → n < 256 → (b : Bool) → b ≡ is_among 0x0000_0030_0000_FF00 n → not b ≡ true → 1 ≡ words_of n
words-one n h true e t = absurd (false≢true t)
words-one n h false e t = words-tested n h false e

pub words_long : (n : ℕ) → n < 256 → (b : Bool) → b ≡ is_among 0x0000_0030_0000_FF00 n → not b ≡ false → long_words n ≡ words_of n
words_long n h true e t = words-tested n h true e
words_long n h false e t = absurd (true≢false t)

-- a command has 1 to 22 words
abbrev words_test : ℕ → Bool
words_test n = leb 1 (words_of n) && leb (words_of n) 22

words-bounds : (n : ℕ) → n < 64 → (1 ≤ words_of n) × (words_of n ≤ 22)
unfolding words_of kind_of
words-bounds n h =
    let r = both (leb 1 (words_of n)) (leb (words_of n) 22) (below 64 words_test tt n h) in
    (leb→le _ _ r.0, leb→le _ _ r.1)

pub words-pos : (n : ℕ) → n < 64 → 1 ≤ words_of n
words-pos n h = (words-bounds n h).0

pub words-most : (n : ℕ) → n < 64 → words_of n ≤ 22
words-most n h = (words-bounds n h).1
