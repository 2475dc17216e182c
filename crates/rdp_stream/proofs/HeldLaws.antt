-- Laws of the held bytes. Assumes nothing.
use Rattle.std.proofs.Common.{ℕ, zero, suc, ◌+◌, ◌-◌, ◌%◌, ◌≤◌, Bool, true, false, not, ◌&&◌, ◌||◌, List, [], ◌∷◌, ◌++◌, eqb, ltb, length, take, drop, replicate, nat_eq, ◌≡◌, refl, sym, ◌∙◌, ap, arith, true≢false, eq-eqb, eqb-true, le-ltb, ltb-false, length-append, length-drop}
use Rattle.std.proofs.Math.Nat.{sub-zero, zero-sub, suc-sub-suc}
use Rattle.std.proofs.Math.ListN.{length-replicate}
use Rattle.std.specs.Cmp.Lexicographic.{pointwise}
use Rattle.std.proofs.Math.Seq.{paste, take_all, take-append_seam, drop-append_seam}
use Rattle.rdp_words.specs.Kinds.{among}
use Rattle.rdp_words.specs.Lengths.{whole_words}
use Rattle.rdp_words.proofs.Tests.{neither}
use Rattle.rdp_check.specs.Order.{ground, first_of}
use Rattle.rdp_stream.specs.Records.{all_zero, remembered, damage_in, damaged_in}
use Rattle.rdp_stream.specs.Steps.{bytes_damaged, unlike_any, Open}

-- ---- bytes that are zero

-- bytes beside as many zeros
pub zero-beside : (xs : List ℕ) → pointwise nat_eq xs (replicate (length xs) 0) ≡ all_zero xs
zero-beside [] = refl
zero-beside (x ∷ xs) = ap (λ (b : Bool). eqb x 0 && b) (zero-beside xs)

pub drop-replicate : (k n : ℕ) → drop {A = ℕ} k (replicate n 0) ≡ replicate (n - k) 0
drop-replicate zero n = rw (sub-zero n)
drop-replicate (suc k) zero = rw (zero-sub (suc k))
drop-replicate (suc k) (suc n) = drop-replicate k n ∙ ap (λ (m : ℕ). replicate m 0) (sym (suc-sub-suc n k))

-- the bytes past some, beside those of an array of zeros
pub zero-past :
    (held : List ℕ) (k : ℕ) → length held ≡ 176 →
    pointwise nat_eq (take (176 - k) (drop k held)) (take (176 - k) (drop k (replicate 176 0))) ≡ all_zero (drop k held)
zero-past held k long =
    let past : length (drop k held) ≡ 176 - k = omega (arith, length-drop k held) in
    let zero-long : length (drop {A = ℕ} k (replicate 176 0)) ≡ 176 - k = ap length (drop-replicate k 176) ∙ length-replicate {A = ℕ} (176 - k) 0 in
    let zero-is : take (176 - k) (drop k (replicate 176 0)) ≡ replicate (length (drop k held)) 0 =
    take_all (176 - k) (drop k (replicate 176 0)) (omega arith) ∙ drop-replicate k 176 ∙ ap (λ (m : ℕ). replicate m 0) (sym past) in
    (λ i. pointwise nat_eq (take_all (176 - k) (drop k held) (omega arith) i) (zero-is i)) ∙ zero-beside (drop k held)

zeros-step : (x : ℕ) (xs ys : List ℕ) (b : Bool) → eqb x 0 ≡ b → b && all_zero xs ≡ true → (all_zero xs ≡ true → xs ≡ ys) → x ∷ xs ≡ 0 ∷ ys
zeros-step x xs ys true t e h = λ i. eqb-true x 0 t i ∷ h e i
zeros-step x xs ys false t e h = absurd (true≢false (sym e))

pub zeros : (xs : List ℕ) → all_zero xs ≡ true → xs ≡ replicate (length xs) 0
zeros [] e = refl
zeros (x ∷ xs) e = zeros-step x xs (replicate (length xs) 0) (eqb x 0) refl e (zeros xs)

-- bytes written over zeros
pub paste-zeros : (m n : ℕ) (xs : List ℕ) → length xs ≡ n → paste (replicate m 0) 0 xs n ≡ xs ++ replicate (m - length xs) 0
paste-zeros m n xs e =
    let k : 0 + n ≡ length xs = omega arith in
    let all : take n xs ≡ xs = take_all n xs (omega arith) in
    (λ i. all i ++ drop (k i) (replicate m 0)) ∙ ap (λ (ys : List ℕ). xs ++ ys) (drop-replicate (length xs) m)

-- ---- held bytes with zeros after them

module _ (xs held : List ℕ) (count : ℕ) (is-held : held ≡ xs ++ replicate (176 - length xs) 0) (is-count : count ≡ length xs) where
  pub padded-front : take count held ≡ xs
  padded-front = (λ i. take (is-count i) (is-held i)) ∙ take-append_seam xs (replicate (176 - length xs) 0)

  pub padded-open : (taken : ℕ) → length xs ≤ 175 → whole_words xs ≡ 0 → length xs ≤ taken → (taken - length xs) % 8 ≡ 0 → taken ≤ 32768 → Open held count taken
  padded-open taken few cut inside whole most =
      record {
        few = rw is-count few;
        long = ap length is-held ∙ length-append xs (replicate (176 - length xs) 0) ∙ (omega (arith, few, length-replicate {A = ℕ} (176 - length xs) 0));
        past = (λ i. drop (is-count i) (is-held i)) ∙ drop-append_seam xs (replicate (176 - length xs) 0) ∙ (λ i. replicate (176 - sym is-count i) 0);
        cut = ap whole_words padded-front ∙ cut;
        inside = rw is-count inside;
        whole = rw is-count whole;
        most = most;
      }

-- ---- 28

-- the reasons in their order: the count, the bytes, the numbers
any_of : (a b c d e f g h : Bool) → eqb (first_of (ground 28 a ∷ ground 28 b ∷ ground 28 c ∷ ground 28 d ∷ ground 28 e ∷ ground 28 f ∷ ground 28 g ∷ ground 28 h ∷ []) 0) 28 ≡ (a || ((b || c) || (d || (e || (f || h))))) || g
any_of true b c d e f g h = refl
any_of false true c d e f g h = refl
any_of false false true d e f g h = refl
any_of false false false true e f g h = refl
any_of false false false false true f g h = refl
any_of false false false false false true g h = refl
any_of false false false false false false true true = refl
any_of false false false false false false true false = refl
any_of false false false false false false false true = refl
any_of false false false false false false false false = refl

pub damaged-by : (held : List ℕ) (count taken number waited : ℕ) → unlike_any held count taken waited || not (among number remembered) ≡ damaged_in held count taken number waited
unfolding damage_in
damaged-by held count taken number waited =
    sym
    (any_of (ltb 175 count) (not (all_zero (drop count held))) (not (eqb (whole_words (take count held)) 0)) (ltb 32768 taken) (ltb taken count) (not (eqb ((taken - count) % 8) 0))
    (not (among number remembered)) (ltb 204800 waited))

-- ---- a record that is not damaged

pub record Sound (held : List ℕ) (count taken number waited : ℕ) : Type 0 where
  pub few : count ≤ 175
  pub clear : all_zero (drop count held) ≡ true
  pub cut : whole_words (take count held) ≡ 0
  pub most : taken ≤ 32768
  pub inside : count ≤ taken
  pub whole : (taken - count) % 8 ≡ 0
  pub known : among number remembered ≡ true
  pub bounded : waited ≤ 204800

not-not : (b : Bool) → not b ≡ false → b ≡ true
not-not true e = refl
not-not false e = sym e

pub sound : (held : List ℕ) (count taken number waited : ℕ) → damaged_in held count taken number waited ≡ false → Sound held count taken number waited
sound held count taken number waited e =
    let z = neither (unlike_any held count taken waited) _ (damaged-by held count taken number waited ∙ e) in
    let a = neither (ltb 175 count) _ z.0 in
    let b = neither (bytes_damaged count held) _ a.1 in
    let c = neither (not (all_zero (drop count held))) _ b.0 in
    let d = neither (ltb 32768 taken) _ b.1 in
    let f = neither (ltb taken count) _ d.1 in
    let g = neither (not (eqb ((taken - count) % 8) 0)) _ f.1 in
    record {
      few = ltb-false _ _ a.0;
      clear = not-not _ c.0;
      cut = eqb-true _ _ (not-not _ c.1);
      most = ltb-false _ _ d.0;
      inside = ltb-false _ _ f.0;
      whole = eqb-true _ _ (not-not _ g.0);
      known = not-not _ z.1;
      bounded = ltb-false _ _ g.1;
    }

pub undamaged : (held : List ℕ) (count taken number waited : ℕ) → Sound held count taken number waited → damaged_in held count taken number waited ≡ false
unfolding damage_in
undamaged held count taken number waited k =
    rw (le-ltb _ _ k.few, k.clear, eq-eqb _ _ k.cut, le-ltb _ _ k.most, le-ltb _ _ k.inside, eq-eqb _ _ k.whole, k.known, le-ltb _ _ k.bounded)
