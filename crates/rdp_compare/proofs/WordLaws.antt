-- Bytes are compared by words: those of equal words are the same. Assumes nothing.
use Rattle.std.proofs.Common.{ℕ, zero, suc, ◌+◌, ◌*◌, ◌/◌, ◌%◌, ◌^◌, ◌≤◌, ◌<◌, Bool, true, false, true≢false, ◌&&◌, List, [], ◌∷◌, ◌≡◌, refl, ap, sym, ◌∙◌, arith, eq-eqb, eqb-true, eqb, length, get_or, drop, length-drop, drop_of_length-le, get_or-drop, drop-drop}
use borrow.Author.Tests.{eqb-false}
use Rattle.std.specs.Cmp.Lexicographic.{pointwise}
use Rattle.std.specs.List.{list_all, range_with_len}
use Rattle.rdp_words.specs.Words.{half_of, word_of, word_at, same_bytes}
use Rattle.rdp_words.proofs.Tests.{by-test, and-true}
use Rattle.rdp_words.proofs.WordLaws.{word-whole}

pub same-same : (xs : List ℕ) → same_bytes xs xs ≡ true
unfolding same_bytes
same-same [] = refl
same-same (x ∷ xs) = rw (eq-eqb x x refl) (same-same xs)

pub bytes_same : (xs ys : List ℕ) → same_bytes xs ys ≡ true → xs ≡ ys
unfolding same_bytes
bytes_same [] [] e = refl
bytes_same [] (b ∷ ys) e = absurd (true≢false (sym e))
bytes_same (a ∷ xs) [] e = absurd (true≢false (sym e))
bytes_same (a ∷ xs) (b ∷ ys) e =
    let p = and-true (eqb a b) (same_bytes xs ys) e in
    λ i. eqb-true a b p.0 i ∷ bytes_same xs ys p.1 i

-- as slices are compared
pub pointwise-same : (xs ys : List ℕ) → pointwise eqb xs ys ≡ same_bytes xs ys
unfolding same_bytes
pointwise-same [] [] = refl
pointwise-same [] (b ∷ ys) = refl
pointwise-same (a ∷ xs) [] = refl
pointwise-same (a ∷ xs) (b ∷ ys) = ap (λ (r : Bool). eqb a b && r) (pointwise-same xs ys)

-- ---- four bytes

abbrev pub Bytes : List ℕ → Type 0
Bytes xs = (k : ℕ) → get_or xs k 0 < 256

highest : (a b c d e f g h : ℕ) → b < 256 → c < 256 → d < 256 → f < 256 → g < 256 → h < 256 →
    a * 2 ^ 24 + b * 2 ^ 16 + c * 2 ^ 8 + d ≡ e * 2 ^ 24 + f * 2 ^ 16 + g * 2 ^ 8 + h → a ≡ e
highest a b c d e f g h hb hc hd hf hg hh q = omega arith

second : (b c d f g h : ℕ) → c < 256 → d < 256 → g < 256 → h < 256 → b * 2 ^ 16 + c * 2 ^ 8 + d ≡ f * 2 ^ 16 + g * 2 ^ 8 + h → b ≡ f
second b c d f g h hc hd hg hh q = omega arith

third : (c d g h : ℕ) → d < 256 → h < 256 → c * 2 ^ 8 + d ≡ g * 2 ^ 8 + h → c ≡ g
third c d g h hd hh q = omega arith

half_lt : (xs : List ℕ) → Bytes xs → half_of xs < 2 ^ 32
unfolding half_of
half_lt xs h = omega (arith, h 0, h 1, h 2, h 3)

half_step : (xs ys : List ℕ) → Bytes xs → Bytes ys → 4 ≤ length xs → 4 ≤ length ys → half_of xs ≡ half_of ys → same_bytes xs ys ≡ same_bytes (drop 4 xs) (drop 4 ys)
unfolding half_of same_bytes
half_step [] ys hx hy p q e = absurd (omega arith)
half_step (a ∷ []) ys hx hy p q e = absurd (omega arith)
half_step (a ∷ b ∷ []) ys hx hy p q e = absurd (omega arith)
half_step (a ∷ b ∷ c ∷ []) ys hx hy p q e = absurd (omega arith)
half_step (a ∷ b ∷ c ∷ d ∷ xs) [] hx hy p q e = absurd (omega arith)
half_step (a ∷ b ∷ c ∷ d ∷ xs) (s ∷ []) hx hy p q e = absurd (omega arith)
half_step (a ∷ b ∷ c ∷ d ∷ xs) (s ∷ t ∷ []) hx hy p q e = absurd (omega arith)
half_step (a ∷ b ∷ c ∷ d ∷ xs) (s ∷ t ∷ u ∷ []) hx hy p q e = absurd (omega arith)
half_step (a ∷ b ∷ c ∷ d ∷ xs) (s ∷ t ∷ u ∷ v ∷ ys) hx hy p q e =
    let one : a ≡ s = highest a b c d s t u v (hx 1) (hx 2) (hx 3) (hy 1) (hy 2) (hy 3) e in
    let e2 : b * 2 ^ 16 + c * 2 ^ 8 + d ≡ t * 2 ^ 16 + u * 2 ^ 8 + v = omega (arith, e, one) in
    let two : b ≡ t = second b c d t u v (hx 2) (hx 3) (hy 2) (hy 3) e2 in
    let e3 : c * 2 ^ 8 + d ≡ u * 2 ^ 8 + v = omega (arith, e2, two) in
    let three : c ≡ u = third c d u v (hx 3) (hy 3) e3 in
    let four : d ≡ v = omega (arith, e3, three) in
    rw (eq-eqb a s one, eq-eqb b t two, eq-eqb c u three, eq-eqb d v four)

-- ---- a word

halves : (a b c d : ℕ) → b < 2 ^ 32 → d < 2 ^ 32 → a * 2 ^ 32 + b ≡ c * 2 ^ 32 + d → (a ≡ c) × (b ≡ d)
halves a b c d hb hd e = let f : a ≡ c = omega arith in (f, omega (arith, e, f))

bytes_drop : (n : ℕ) (xs : List ℕ) → Bytes xs → Bytes (drop n xs)
bytes_drop n xs h k = rw (get_or-drop n xs k 0) (h (n + k))

word-step : (xs ys : List ℕ) → Bytes xs → Bytes ys → 8 ≤ length xs → 8 ≤ length ys → word_of xs ≡ word_of ys → same_bytes xs ys ≡ same_bytes (drop 8 xs) (drop 8 ys)
word-step xs ys hx hy p q e =
    let x = drop 4 xs in
    let y = drop 4 ys in
    let both = halves (half_of xs) (half_of x) (half_of ys) (half_of y) (half_lt x (bytes_drop 4 xs hx)) (half_lt y (bytes_drop 4 ys hy)) e in
    half_step xs ys hx hy (omega arith) (omega arith) both.0 ∙
    half_step x y (bytes_drop 4 xs hx) (bytes_drop 4 ys hy) (omega (arith, length-drop 4 xs)) (omega (arith, length-drop 4 ys)) both.1 ∙
    (λ i. same_bytes (drop-drop 4 4 xs i) (drop-drop 4 4 ys i))

-- ---- word after word

abbrev pub same_at : List ℕ → List ℕ → ℕ → Bool
same_at c d i = same_bytes (drop (8 * i) c) (drop (8 * i) d)

module _ (c d : List ℕ) (long : length c ≡ length d) where
  pub words_same : Bytes c → Bytes d → (i : ℕ) → i < length c / 8 → word_at c i ≡ word_at d i → same_at c d (i + 1) ≡ same_at c d i
  words_same hc hd i h e =
      let xs = drop (8 * i) c in
      let ys = drop (8 * i) d in
      let w : word_of xs ≡ word_of ys = sym (word-whole c i h) ∙ e ∙ word-whole d i (omega (arith, long)) in
      let n : 8 * i + 8 ≡ 8 * (i + 1) = omega arith in
      sym
      (word-step xs ys (bytes_drop (8 * i) c hc) (bytes_drop (8 * i) d hd)
      (omega (arith, length-drop (8 * i) c)) (omega (arith, length-drop (8 * i) d, long)) w ∙
      (λ j. same_bytes (drop-drop 8 (8 * i) c j) (drop-drop 8 (8 * i) d j)) ∙
      (λ j. same_bytes (drop (n j) c) (drop (n j) d)))

  pub words-differ : (i : ℕ) → i < length c / 8 → (word_at c i ≡ word_at d i → ⊥) → false ≡ same_at c d i
  words-differ i h ne =
      by-test (same_at c d i)
      (λ t. absurd (ne (word-whole c i h ∙ ap word_of (bytes_same (drop (8 * i) c) (drop (8 * i) d) t) ∙ sym (word-whole d i (omega (arith, long))))))
      (λ f. sym f)

  -- the words from one on, each tested
  pub all-same :
      Bytes c → Bytes d → length c % 8 ≡ 0 → (i m : ℕ) → i + m ≡ length c / 8 →
      list_all (λ k. eqb (word_at c k) (word_at d k)) (range_with_len i m) ≡ same_at c d i
  unfolding same_bytes
  all-same hc hd z i zero e =
      let p : length c ≤ 8 * i = omega (arith, z, e) in
      let q : length d ≤ 8 * i = omega (arith, p, long) in
      sym (λ j. same_bytes (drop_of_length-le c p j) (drop_of_length-le d q j))
  all-same hc hd z i (suc m) e =
      let h : i < length c / 8 = omega (arith, e) in
      by-test (eqb (word_at c i) (word_at d i))
      (λ t. rw t (all-same hc hd z (i + 1) m (omega (arith, e)) ∙ words_same hc hd i h (eqb-true _ _ t)))
      (λ f. rw f (words-differ i h (eqb-false _ _ f)))
