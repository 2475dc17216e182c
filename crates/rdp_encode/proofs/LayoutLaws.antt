-- The bit lines of every command fall within each word, so that its words hold each field's bits. Assumes nothing.
use Rattle.std.proofs.Common.{ℕ, zero, suc, ◌+◌, ◌*◌, ◌/◌, ◌%◌, ◌^◌, ◌≤◌, ◌<◌, zero-le, suc-le-suc, Bool, true, false, cond, ◌&&◌, List, [], ◌∷◌, map, ◌≡◌, refl, ap, sym, ◌∙◌, not-suc-le-zero, le_of_suc-le-suc, zero-add, arith, T, eqb, ltb, ltb→lt, length, get_or}
use Rattle.std.proofs.Math.Nat.{suc_inj}
use Rattle.rdp_command.specs.Layout.{Line, width, layout, bits}
use Rattle.rdp_encode.specs.Table.{Readable}
use Rattle.std.specs.List.{AllByRecursion}
use Rattle.rdp_command.specs.Fields.{Value, bits_at, value_of, fields_of}
use Rattle.rdp_encode.specs.Placed.{number_of_value, fits_line, all_fit, at_lines}
use Rattle.rdp_encode.specs.Encode.{fixed_bits, packed_word, base_words}
use Rattle.rdp_words.specs.Kinds.{kind_of, words_of}
use Rattle.rdp_encode.specs.Numbers.{value_from, values_from}
use Rattle.rdp_words.proofs.Tests.{below, both, both_of, by-test, and-true}
use Rattle.rdp_encode.proofs.BitLaws.{falling, packed_lt, read_at}
use Rattle.rdp_encode.proofs.ValueLaws.{sign_is, sign-from, number-from, value-back}

-- ---- one test over the 64 numbers

abbrev in_words : ℕ → List Line → Bool
in_words words [] = true
in_words words (l ∷ ls) = ltb l.word words && in_words words ls

-- the first word's lines begin below the number's bits: below bit 59 for a triangle, whose flags are lines
abbrev pub first_top : ℕ → ℕ
first_top n = cond (eqb (n / 8) 1) 59 56

abbrev falls : ℕ → Bool
falls n =
    ((((falling 0 (first_top n) (layout n) && falling 1 64 (layout n)) && falling 2 64 (layout n)) && falling 3 64 (layout n)) && in_words (base_words n) (layout n)) &&
    ltb (fixed_bits n) 64

all-fall : (n : ℕ) → n < 64 → T (falls n)
unfolding layout words_of kind_of
all-fall n h = below 64 falls tt n h

in-words : (words : ℕ) (ls : List Line) → T (in_words words ls) → (k : ℕ) (d : Line) → k < length ls → (get_or ls k d).word < words
in-words words [] t k d s = absurd (not-suc-le-zero s)
in-words words (l ∷ ls) t zero d s = ltb→lt _ _ (both (ltb l.word words) (in_words words ls) t).0
in-words words (l ∷ ls) t (suc k) d s = in-words words ls (both (ltb l.word words) (in_words words ls) t).1 k d (le_of_suc-le-suc s)

module _ (n : ℕ) (h : n < 64) where
  parts : T (falling 0 (first_top n) (layout n)) × (T (falling 1 64 (layout n)) × (T (falling 2 64 (layout n)) × (T (falling 3 64 (layout n)) × (T (in_words (base_words n) (layout n)) × (fixed_bits n < 64)))))
  parts =
      let a = falling 0 (first_top n) (layout n) in
      let b = falling 1 64 (layout n) in
      let c = falling 2 64 (layout n) in
      let d = falling 3 64 (layout n) in
      let e = in_words (base_words n) (layout n) in
      let p = both ((((a && b) && c) && d) && e) (ltb (fixed_bits n) 64) (all-fall n h) in
      let q = both (((a && b) && c) && d) e p.0 in
      let r = both ((a && b) && c) d q.0 in
      let s = both (a && b) c r.0 in
      let t = both a b s.0 in
      (t.0, (t.1, (s.1, (r.1, (q.1, ltb→lt _ _ p.1)))))

  -- the number's fixed bits stand above the lines of the first word
  first_word : (ns : List ℕ) → packed_word n ns 0 ≡ cond (eqb (n / 8) 1) 1 n * 2 ^ first_top n + at_lines 0 (layout n) ns
  first_word ns = by (eqb (n / 8) 1)
    where
      by : (b : Bool) → cond b 8 n * 2 ^ 56 + at_lines 0 (layout n) ns ≡ cond b 1 n * 2 ^ cond b 59 56 + at_lines 0 (layout n) ns
      by true = refl
      by false = refl

  pub first_rest : (ns : List ℕ) → at_lines 0 (layout n) ns < 2 ^ first_top n
  first_rest ns = packed_lt 0 (first_top n) (layout n) ns parts.0

  pub rest_lt : (ns : List ℕ) (i : ℕ) → i < 4 → at_lines i (layout n) ns < 2 ^ 64
  rest_lt ns zero s =
      by-test (eqb (n / 8) 1)
      (λ t. let r = rw t at (first_rest ns) in omega arith)
      (λ f. let r = rw f at (first_rest ns) in omega arith)
  rest_lt ns (suc zero) s = packed_lt 1 64 (layout n) ns parts.1.0
  rest_lt ns (suc (suc zero)) s = packed_lt 2 64 (layout n) ns parts.1.1.0
  rest_lt ns (suc (suc (suc zero))) s = packed_lt 3 64 (layout n) ns parts.1.1.1.0
  rest_lt ns (suc (suc (suc (suc i)))) s = absurd (omega arith)

  pub word_lt : (ns : List ℕ) (i : ℕ) → i < 4 → packed_word n ns i < 2 ^ 64
  word_lt ns zero s =
      by-test (eqb (n / 8) 1)
      (λ t. let r = rw t at (first_rest ns) in rw t (omega arith))
      (λ f. let r = rw f at (first_rest ns) in rw f (omega arith))
  word_lt ns (suc zero) s = rw zero-add (rest_lt ns 1 s)
  word_lt ns (suc (suc zero)) s = rw zero-add (rest_lt ns 2 s)
  word_lt ns (suc (suc (suc zero))) s = rw zero-add (rest_lt ns 3 s)
  word_lt ns (suc (suc (suc (suc i)))) s = absurd (omega arith)

  -- the bits of each line are the low bits of its number
  module _ (ns : List ℕ) (long : length (layout n) ≡ length ns) (k : ℕ) (s : k < length (layout n)) where
    abbrev line : Line
    line = get_or (layout n) k (bits 0 0 0)

    word_in : line.word < base_words n
    word_in = in-words (base_words n) (layout n) parts.1.1.1.1.0 k (bits 0 0 0) s

    at-word : (i : ℕ) → i < 4 → line.word ≡ i → bits_at line (packed_word n ns i) ≡ get_or ns k 0 % 2 ^ width line
    at-word zero r e =
        ap (bits_at line) (first_word ns) ∙ read_at (bits 0 0 0) 0 (first_top n) (cond (eqb (n / 8) 1) 1 n) (layout n) ns parts.0 long k s e
    at-word (suc zero) r e = read_at (bits 0 0 0) 1 64 0 (layout n) ns parts.1.0 long k s e
    at-word (suc (suc zero)) r e = read_at (bits 0 0 0) 2 64 0 (layout n) ns parts.1.1.0 long k s e
    at-word (suc (suc (suc zero))) r e = read_at (bits 0 0 0) 3 64 0 (layout n) ns parts.1.1.1.0 long k s e
    at-word (suc (suc (suc (suc i)))) r e = absurd (omega arith)

    bits-of-word : bits_at line (packed_word n ns line.word) ≡ get_or ns k 0 % 2 ^ width line
    bits-of-word = at-word line.word (omega (arith, word_in)) refl

-- ---- the fields of the words are the values

-- as many values as lines, each signed as its line is
abbrev pub matched : List Line → List Value → Bool
matched [] [] = true
matched [] (v ∷ vs) = false
matched (l ∷ ls) [] = false
matched (l ∷ ls) (v ∷ vs) = sign_is l.is_signed v && matched ls vs

pub matched-long : (ls : List Line) (vs : List Value) → T (matched ls vs) → length ls ≡ length (map number_of_value vs)
matched-long [] [] t = refl
matched-long [] (v ∷ vs) t = absurd t
matched-long (l ∷ ls) [] t = absurd t
matched-long (l ∷ ls) (v ∷ vs) t = ap suc (matched-long ls vs (both (sign_is l.is_signed v) (matched ls vs) t).1)

all_back :
    (ws : List ℕ) (ls : List Line) (vs : List Value) → AllByRecursion Readable ls → T (matched ls vs) →
    ((k : ℕ) → k < length ls → bits_at (get_or ls k (bits 0 0 0)) (get_or ws (get_or ls k (bits 0 0 0)).word 0) ≡ get_or (map number_of_value vs) k 0 % 2 ^ width (get_or ls k (bits 0 0 0))) →
    all_fit ls vs ≡ true → fields_of ls ws ≡ vs
all_back ws [] [] r t f a = refl
all_back ws [] (v ∷ vs) r t f a = absurd t
all_back ws (l ∷ ls) [] r t f a = absurd t
all_back ws (l ∷ ls) (v ∷ vs) r t f a =
    let m = both (sign_is l.is_signed v) (matched ls vs) t in
    let p = and-true (fits_line l v) (all_fit ls vs) a in
    let q : width l ≤ 64 = omega (arith, r.0.narrow) in
    let head = ap (value_of l.is_signed (width l)) (f 0 (suc-le-suc zero-le)) ∙ value-back l q v m.0 p.0 in
    λ i. head i ∷ all_back ws ls vs r.1 m.1 (λ k s. f (suc k) (suc-le-suc s)) p.1 i

-- words that hold the values, as many as the command has
pub words_back :
    (n : ℕ) (vs : List Value) (ws : List ℕ) → n < 64 → AllByRecursion Readable (layout n) → T (matched (layout n) vs) → all_fit (layout n) vs ≡ true →
    ((i : ℕ) → i < base_words n → get_or ws i 0 ≡ packed_word n (map number_of_value vs) i) → fields_of (layout n) ws ≡ vs
words_back n vs ws h r t a w =
    let ns = map number_of_value vs in
    let e = matched-long (layout n) vs t in
    all_back ws (layout n) vs r t
    (λ k s.
    let line = get_or (layout n) k (bits 0 0 0) in
    ap (bits_at line) (w line.word (word_in n h ns e k s)) ∙ bits-of-word n h ns e k s)
    a

-- ---- the same for numbers

abbrev pub packed_words : ℕ → List ℕ → List ℕ
packed_words n ns = packed_word n ns 0 ∷ packed_word n ns 1 ∷ packed_word n ns 2 ∷ packed_word n ns 3 ∷ []

word-of : (n : ℕ) (ns : List ℕ) (i : ℕ) → i < 4 → get_or (packed_words n ns) i 0 ≡ packed_word n ns i
word-of n ns zero s = refl
word-of n ns (suc zero) s = refl
word-of n ns (suc (suc zero)) s = refl
word-of n ns (suc (suc (suc zero))) s = refl
word-of n ns (suc (suc (suc (suc i)))) s = absurd (omega arith)

pub numbers-from :
    (ls : List Line) (ns : List ℕ) → length ls ≡ length ns → ((k : ℕ) → get_or ns k 0 < 2 ^ 64) →
    T (matched ls (values_from ls ns)) × (map number_of_value (values_from ls ns) ≡ ns)
numbers-from [] [] e g = (tt, refl)
numbers-from [] (n ∷ ns) e g = absurd (omega arith)
numbers-from (l ∷ ls) [] e g = absurd (omega arith)
numbers-from (l ∷ ls) (n ∷ ns) e g =
    let r = numbers-from ls ns (suc_inj e) (λ k. g (suc k)) in (
      both_of (sign_is l.is_signed (value_from l.is_signed n)) (matched ls (values_from ls ns)) (sign-from l.is_signed n) r.0,
      λ i. number-from l.is_signed n (g 0) i ∷ r.1 i,
    )

pub fields_back :
    (n : ℕ) (ns : List ℕ) → n < 64 → AllByRecursion Readable (layout n) → length (layout n) ≡ length ns → ((k : ℕ) → get_or ns k 0 < 2 ^ 64) →
    all_fit (layout n) (values_from (layout n) ns) ≡ true → fields_of (layout n) (packed_words n ns) ≡ values_from (layout n) ns
fields_back n ns h r e g a =
    let f = numbers-from (layout n) ns e g in
    words_back n (values_from (layout n) ns) (packed_words n ns) h r f.0 a
    (λ i s. word-of n ns i (omega arith) ∙ ap (λ (x : List ℕ). packed_word n x i) (sym f.1))
