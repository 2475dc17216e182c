-- Which fields of two commands differ: field after field, their bits below a bound, and a suffix. Assumes nothing.
use Rattle.std.proofs.Common.{ℕ, zero, suc, ◌+◌, ◌*◌, ◌%◌, ◌^◌, ◌≤◌, ◌<◌, Bool, true, false, cond, not, ◌&&◌, List, [], ◌∷◌, ◌++◌, ◌≡◌, refl, ap, sym, ◌∙◌, le_refl, add-zero, zero-add, add-one, arith, eq-eqb, ne_eqb, le-ltb, eqb, ltb, ltb→lt, length, take, pow_mono}
use Rattle.std.specs.Prelude.{Some, None, Result, Ok, Err}
use Rattle.std.specs.Result.{result_unwrap_or}
use Rattle.std.specs.List.{zip, enumerate_from, sum_by}
use Rattle.std.proofs.lemmas.List.Sums.{sum_by-cons}
use Rattle.rdp_words.specs.Words.{word_at, overwrite, same_bytes}
use Rattle.rdp_words.specs.Kinds.{words_of}
use Rattle.rdp_words.specs.Lengths.{first_number, whole_words, suffix_of}
use Rattle.rdp_words.specs.Grounds.{Answer, answered}
use Rattle.rdp_words.specs.declared.grounds.Refusal.{Refusal}
use Rattle.rdp_words.proofs.GroundLaws.{refused-number}
use Rattle.rdp_words.proofs.Tests.{below, both}
use Rattle.rdp_words.proofs.KindLaws.{words-pos}
use Rattle.rdp_words.proofs.PlaceLaws.{number_small, words-there}
use Rattle.rdp_words.proofs.OverwriteLaws.{take-overwrite}
use Rattle.rdp_command.specs.Layout.{layout}
use Rattle.rdp_command.specs.Decode.{Decoded, Whole, decode_of, answer}
use Rattle.rdp_command.specs.declared.Command.{Command}
use Rattle.rdp_command.proofs.ReadLaws.{decodes}
use Rattle.rdp_command.proofs.BoundLaws.{lines-most}
use Rattle.rdp_encode.specs.Encode.{numbers_of}
use Rattle.rdp_encode.specs.Numbers.{fields_answer, fields_out}
use Rattle.rdp_encode.proofs.PackLaws.{power}
use Rattle.rdp_encode.proofs.BoundLaws.{fields-decoded}
use Rattle.rdp_compare.specs.Differing.{numbers_in, field_numbers, unlike, fields_differ, unnamed_before, line_index, bits_from, differing_fields}
use Rattle.rdp_compare.specs.Entries.{differ}
use Rattle.rdp_compare.specs.Places.{OneCommand}
use Rattle.rdp_compare.specs.Steps.{Alike, difference}
use Rattle.rdp_compare.proofs.WordLaws.{same-same, bytes_same}

-- a bit at an index of at most 40
pub bit-most : {i j : ℕ} → i ≡ j → j ≤ 40 → (1 * 2 ^ j % 2 ^ 64 ≡ 2 ^ i) × (1 * 2 ^ j % 2 ^ 64 ≤ 2 ^ 40)
bit-most {i} {j} e h =
    let s : j < 64 = omega arith in
    (power j s ∙ ap (λ (k : ℕ). 2 ^ k) (sym e), rw (power j s) (pow_mono h))

-- ---- field after field

abbrev pub field_bit : ℕ → ℕ × (ℕ × ℕ) → ℕ
field_bit n p = cond (not (eqb p.1.0 p.1.1)) (2 ^ line_index n p.0) 0

pub bits-summed : (n k : ℕ) (xs ys : List ℕ) → sum_by (field_bit n) (enumerate_from k (zip xs ys)) ≡ bits_from n k (unlike xs ys)
unfolding unlike bits_from
bits-summed n k [] ys = refl
bits-summed n k (x ∷ xs) [] = refl
bits-summed n k (x ∷ xs) (y ∷ ys) =
    sum_by-cons (field_bit n) (k, (x, y)) (enumerate_from (k + 1) (zip xs ys)) ∙
    ap (λ (m : ℕ). field_bit n (k, (x, y)) + m) (bits-summed n (k + 1) xs ys ∙ ap (λ (j : ℕ). bits_from n j (unlike xs ys)) (add-one k))

-- ---- a bound

abbrev index_by : Bool → ℕ → ℕ
index_by b k = k + cond b (unnamed_before k) 0

-- a bit for every field
abbrev all_bits : Bool → ℕ → ℕ → ℕ
all_bits b k zero = 0
all_bits b k (suc m) = 2 ^ index_by b k + all_bits b (suc k) m

at_most : (b : Bool) (x : ℕ) → cond b x 0 ≤ x
at_most true x = le_refl x
at_most false x = omega arith

bits_most : (n k : ℕ) (bs : List Bool) → bits_from n k bs ≤ all_bits (eqb n 0x2F) k (length bs)
unfolding bits_from
bits_most n k [] = omega arith
bits_most n k (b ∷ bs) = omega (arith, at_most b (2 ^ line_index n k), bits_most n (suc k) bs)

abbrev few : ℕ → Bool
few m = ltb (all_bits true 0 m) (2 ^ 40) && ltb (all_bits false 0 m) (2 ^ 40)

all-few : (b : Bool) (m : ℕ) → m < 38 → all_bits b 0 m < 2 ^ 40
all-few true m h = ltb→lt _ _ (both (ltb (all_bits true 0 m) (2 ^ 40)) (ltb (all_bits false 0 m) (2 ^ 40)) (below 38 few tt m h)).0
all-few false m h = ltb→lt _ _ (both (ltb (all_bits true 0 m) (2 ^ 40)) (ltb (all_bits false 0 m) (2 ^ 40)) (below 38 few tt m h)).1

pub bits-lt : (n : ℕ) (bs : List Bool) → length bs ≤ 37 → bits_from n 0 bs < 2 ^ 40
bits-lt n bs h =
    let t : all_bits (eqb n 0x2F) 0 (length bs) < 2 ^ 40 = all-few (eqb n 0x2F) (length bs) (omega arith) in
    let m = bits_most n 0 bs in
    omega (arith, t, m)

pub length-unlike : (xs ys : List ℕ) → length xs ≡ length ys → length (unlike xs ys) ≡ length xs
unfolding unlike
length-unlike [] ys e = refl
length-unlike (x ∷ xs) [] e = absurd (omega arith)
length-unlike (x ∷ xs) (y ∷ ys) e = ap suc (length-unlike xs ys (omega arith))

pub bits-small : (n : ℕ) (xs ys : List ℕ) → (length xs ≡ length ys) × (length xs ≤ 37) → bits_from n 0 (unlike xs ys) < 2 ^ 40
bits-small n xs ys h = bits-lt n (unlike xs ys) (rw (length-unlike xs ys h.0) h.1)

-- ---- one field more

pub bits-last : (n k : ℕ) (bs : List Bool) (b : Bool) → bits_from n k (bs ++ (b ∷ [])) ≡ bits_from n k bs + cond b (2 ^ line_index n (k + length bs)) 0
unfolding bits_from
bits-last n k [] b =
    let e : k + 0 ≡ k = add-zero k in
    add-zero _ ∙ sym (zero-add _ ∙ ap (λ (j : ℕ). cond b (2 ^ line_index n j) 0) e)
bits-last n k (x ∷ bs) b =
    let e : suc k + length bs ≡ k + suc (length bs) = omega arith in
    let r = bits-last n (suc k) bs b ∙ ap (λ (j : ℕ). bits_from n (suc k) bs + cond b (2 ^ line_index n j) 0) e in
    let f = cond x (2 ^ line_index n k) 0 in
    omega (arith, r)

-- ---- a command by its bytes

module _ (c : List ℕ) (one : OneCommand c) where
  whole : whole_words c ≡ words_of (first_number c)
  whole = words-there c (omega (arith, one))

  pub there : whole_words c ≡ 0 → ⊥
  there z = omega (arith, whole, words-pos (first_number c) (number_small (word_at c 0)))

  pub fields-long : length (field_numbers c) ≡ length (layout (first_number c))
  fields-long =
      ap (λ (x : Decoded). length (numbers_in x)) (decodes c there) ∙
      fields-decoded c (decodes c there)

-- ---- its fields as the code takes them

-- the numbers that are written, at the front of what is lent
module _ (c lent : List ℕ) (room : 37 ≤ length lent) {x : Command} (is : Whole x ≡ decode_of c) where
  numbers-are : field_numbers c ≡ numbers_of x
  numbers-are = ap numbers_in (sym is)

  few-numbers : length (numbers_of x) ≤ 37
  few-numbers = rw (fields-decoded c (sym is)) (lines-most (first_number c) (number_small (word_at c 0)))

  fits : ltb (length lent) (length (numbers_of x)) ≡ false
  fits = le-ltb (length lent) (length (numbers_of x)) (omega (arith, few-numbers, room))

  given : (a : Result ℕ Refusal) {n : ℕ} → answered a ≡ answer 0 n → result_unwrap_or a 0 ≡ n
  given (Ok m) f = ap (λ (y : Answer). y.place) f
  given (Err r) f = absurd (refused-number r.ground (ap (λ (y : Answer). y.number) f))

  pub written-count : (a : Result ℕ Refusal) → answered a ≡ fields_answer x lent → result_unwrap_or a 0 ≡ length (field_numbers c)
  unfolding fields_answer
  written-count a e = given a (e ∙ rw fits refl) ∙ ap length (sym numbers-are)

  pub few-fields : length (field_numbers c) ≤ 37
  few-fields = rw numbers-are few-numbers

  pub written-front : (a : Result ℕ Refusal) → answered a ≡ fields_answer x lent → {new : List ℕ} → new ≡ fields_out x lent → take (result_unwrap_or a 0) new ≡ field_numbers c
  unfolding fields_out
  written-front a e f =
      ap (take (result_unwrap_or a 0)) (f ∙ rw fits (ap (λ (l : List ℕ). overwrite l lent) (sym numbers-are))) ∙
      take-overwrite (field_numbers c) lent (result_unwrap_or a 0) (sym (written-count a e))

-- ---- two commands of one number

module _ {c d : List ℕ} {n : ℕ} (a : Alike c d n) where
  same : first_number c ≡ first_number d
  same = sym a.first ∙ a.second

  pub as_long : length c ≡ length d
  as_long = a.one ∙ ap (λ (k : ℕ). 8 * words_of k) same ∙ sym a.two

  pub in-words : length c % 8 ≡ 0
  in-words = omega (arith, a.one)

  pub as_many : length (field_numbers c) ≡ length (field_numbers d)
  as_many = fields-long c a.one ∙ ap (λ (k : ℕ). length (layout k)) same ∙ sym (fields-long d a.two)

  module _ {bits : ℕ} {xs ys : List ℕ} (is-xs : xs ≡ field_numbers c) (is-ys : ys ≡ field_numbers d) (is-bits : bits ≡ bits_from n 0 (unlike xs ys)) where
    pub of-suffix : (s : Bool) → same_bytes (suffix_of c) (suffix_of d) ≡ s → differing_fields c d ≡ bits + cond (not s) (2 ^ line_index n (length xs)) 0
    unfolding differing_fields
    of-suffix s t =
        let us = unlike (field_numbers c) (field_numbers d) in
        let k : 0 + length us ≡ length xs = zero-add (length us) ∙ length-unlike (field_numbers c) (field_numbers d) as_many ∙ sym (ap length is-xs) in
        rw (eq-eqb (first_number c) (first_number d) same)
        (ap (λ (j : ℕ). bits_from j 0 (fields_differ c d)) (sym a.first) ∙
        bits-last n 0 us (not (same_bytes (suffix_of c) (suffix_of d))) ∙
        (λ i. bits_from n 0 (unlike (sym is-xs i) (sym is-ys i)) + cond (not (t i)) (2 ^ line_index n (k i)) 0) ∙
        ap (λ (b : ℕ). b + cond (not s) (2 ^ line_index n (length xs)) 0) (sym is-bits))

-- ---- commands of other numbers, and the same bytes

numbers-differ : (c d : List ℕ) → (first_number c ≡ first_number d → ⊥) → 0 ≡ differing_fields c d
unfolding differing_fields
numbers-differ c d h = rw (ne_eqb _ _ h)

none-unlike : (n k : ℕ) (xs : List ℕ) (b : Bool) → b ≡ false → bits_from n k (unlike xs xs ++ (b ∷ [])) ≡ 0
unfolding bits_from unlike
none-unlike n k [] b e = rw e
none-unlike n k (x ∷ xs) b e = rw (eq-eqb x x refl) (zero-add _ ∙ none-unlike n (suc k) xs b e)

pub no_difference : (c d : List ℕ) → first_number c ≡ first_number d → field_numbers c ≡ field_numbers d → suffix_of c ≡ suffix_of d → differing_fields c d ≡ 0
unfolding differing_fields
no_difference c d e f s =
    let b : not (same_bytes (suffix_of c) (suffix_of d)) ≡ false = ap not (ap (same_bytes (suffix_of c)) (sym s) ∙ same-same (suffix_of c)) in
    rw (eq-eqb (first_number c) (first_number d) e)
    (ap (λ (l : List ℕ). bits_from (first_number c) 0 (unlike (field_numbers c) l ++ (not (same_bytes (suffix_of c) (suffix_of d)) ∷ []))) (sym f) ∙
    none-unlike (first_number c) 0 (field_numbers c) (not (same_bytes (suffix_of c) (suffix_of d))) b)

same_none : (c d : List ℕ) → c ≡ d → differ c d ≡ false
same_none c d e =
    let n = ap first_number e in
    let z = no_difference c d n (ap field_numbers e) (ap suffix_of e) in
    rw (eq-eqb (first_number c) (first_number d) n, eq-eqb (differing_fields c d) 0 z)

-- ---- as the code takes the numbers

pub other-numbers : (c d : List ℕ) → (first_number c ≡ first_number d → ⊥) → Some 0 ≡ difference c d
other-numbers c d h = rw (ne_eqb (first_number c) (first_number d) h) (ap Some (numbers-differ c d h))

pub of_fields : (c d : List ℕ) → first_number c ≡ first_number d → {mask : ℕ} → mask ≡ differing_fields c d → cond (not (eqb mask 0)) (Some mask) None ≡ difference c d
of_fields c d same e = rw (eq-eqb (first_number c) (first_number d) same) (ap (λ (k : ℕ). cond (not (eqb k 0)) (Some k) None) e)

pub of-same-bytes : (c d : List ℕ) → same_bytes c d ≡ true → None ≡ difference c d
of-same-bytes c d t = rw (same_none c d (bytes_same c d t))
