-- The value of a line from its bits, and its number back. Assumes nothing.
use Rattle.std.proofs.Common.{ℕ, zero, suc, ◌+◌, ◌-◌, ◌*◌, ◌%◌, ◌^◌, ◌≤◌, ◌<◌, Bool, true, false, ◌≡◌, refl, ap, sym, ◌∙◌, mod-eq_of_lt, pow-suc, mul_comm, suc-mul, add_comm, not-suc-le-zero, sub-one, arith, lt-ltb, le-ltb, ltb-true, ltb-false, T, ltb, ℤ, pos, negsuc, pow_pos, pow-add, w64, of_z}
use Rattle.std.proofs.Math.Nat.{add-mul-mod_self_right}
use lib.Signed.{mag}
use Rattle.std.proofs.Math.Facts.{of_z-to_z}
use Rattle.rdp_command.specs.Layout.{Line, width}
use Rattle.rdp_command.specs.Fields.{Value, unsigned, signed, twos_complement, value_of}
use Rattle.rdp_encode.specs.Placed.{number_of_value, fits_line}
use Rattle.rdp_encode.specs.Numbers.{value_from}
use Rattle.rdp_words.proofs.Tests.{by-test}
use Rattle.rdp_encode.proofs.TwosLaws.{signed-fits}

-- half is 2 to the bits less one, of which 2 ^ 64 is a multiple
module _ (half k : ℕ) (m : 2 ^ 64 ≡ 2 * half + k * (2 * half)) where
  -- a number below 0 that is not far from it, in its low bits
  low-negative : (n : ℕ) → n < half → (2 ^ 64 - suc n) % (2 * half) ≡ 2 * half - suc n
  low-negative n h =
      let e : 2 ^ 64 - suc n ≡ 2 * half - suc n + k * (2 * half) = omega arith in
      ap (λ (x : ℕ). x % (2 * half)) e ∙ add-mul-mod_self_right (2 * half - suc n) k (2 * half) ∙ mod-eq_of_lt (omega arith)

  -- the low bits of a signed number that fits give the number back
  signed_back : (z : ℤ) → mag z < half → twos_complement half (of_z w64 z % (2 * half)) ≡ z
  unfolding twos_complement
  signed_back (pos n) h =
      let r : n % (2 * half) ≡ n = mod-eq_of_lt (omega arith) in
      rw (r, lt-ltb _ _ h)
  signed_back (negsuc n) h =
      let g : half ≤ 2 * half - suc n = omega arith in
      let d : 2 * half - suc (2 * half - suc n) ≡ n = omega arith in
      rw (low-negative n h, le-ltb _ _ g) (ap negsuc d)

  -- the other way round
  module _ (b : ℕ) (h : b < 2 * half) where
    bits_back : of_z w64 (twos_complement half b) % (2 * half) ≡ b
    unfolding twos_complement
    bits_back =
        by-test (ltb b half) (λ t. rw t (mod-eq_of_lt h))
        (λ f.
        let g : half ≤ b = ltb-false b half f in
        let d : 2 * half - suc (2 * half - suc b) ≡ b = omega arith in
        rw f (low-negative (2 * half - suc b) (omega arith) ∙ d))

    magnitude : mag (twos_complement half b) < half
    unfolding twos_complement
    magnitude =
        by-test (ltb b half) (λ t. rw t (ltb-true b half t))
        (λ f. let g : half ≤ b = ltb-false b half f in rw f (omega arith))

-- two to the width, as twice its half, divides 2 ^ 64
module _ (w : ℕ) (p : 0 < w) (q : w ≤ 64) where
  doubled : 2 ^ w ≡ 2 * 2 ^ (w - 1)
  doubled = let e : w ≡ suc (w - 1) = omega arith in ap (λ (x : ℕ). 2 ^ x) e ∙ pow-suc 2 (w - 1) ∙ mul_comm (2 ^ (w - 1)) 2

  multiple : 2 ^ 64 ≡ 2 * 2 ^ (w - 1) + (2 ^ (64 - w) - 1) * (2 * 2 ^ (w - 1))
  multiple =
      let e : 64 ≡ 64 - w + w = omega arith in
      let f : 2 ^ 64 ≡ 2 ^ (64 - w) * 2 ^ w = ap (λ (x : ℕ). 2 ^ x) e ∙ pow-add 2 (64 - w) w in
      f ∙ ap (λ (x : ℕ). 2 ^ (64 - w) * x) doubled ∙ one_less (2 ^ (64 - w)) (2 * 2 ^ (w - 1)) (pow_pos (64 - w))
    where
      one_less : (a b : ℕ) → 0 < a → a * b ≡ b + (a - 1) * b
      one_less zero b h = absurd (not-suc-le-zero h)
      one_less (suc a) b h = suc-mul a b ∙ add_comm (a * b) b ∙ ap (λ (x : ℕ). b + x * b) (sym (sub-one (suc a)))

-- ---- values of lines

-- a value of a signed line is signed, of any other unsigned
abbrev pub sign_is : Bool → Value → Bool
sign_is false (unsigned n) = true
sign_is false (signed z) = false
sign_is true (unsigned n) = false
sign_is true (signed z) = true

pub sign-from : (s : Bool) (n : ℕ) → T (sign_is s (value_from s n))
sign-from false n = tt
sign-from true n = tt

pub number-from : (s : Bool) (n : ℕ) → n < 2 ^ 64 → number_of_value (value_from s n) ≡ n
number-from false n h = refl
number-from true n h = of_z-to_z {w = w64} {n = n} (record { fits = h })

module _ (l : Line) (q : width l ≤ 64) where
  abbrev w : ℕ
  w = width l

  one : 0 < w
  one = omega arith

  -- a value that fits a line of its sign is read back from its low bits
  pub value-back : (v : Value) → T (sign_is l.is_signed v) → fits_line l v ≡ true → value_of l.is_signed w (number_of_value v % 2 ^ w) ≡ v
  value-back v = by l.is_signed v
    where
      by : (s : Bool) (v : Value) → T (sign_is s v) → fits_line l v ≡ true → value_of s w (number_of_value v % 2 ^ w) ≡ v
      by false (unsigned n) t e = ap unsigned (mod-eq_of_lt (ltb-true n (2 ^ w) e))
      by false (signed z) t e = absurd t
      by true (unsigned n) t e = absurd t
      by true (signed z) t e =
          ap signed
          (ap (λ (x : ℕ). twos_complement (2 ^ (w - 1)) (of_z w64 z % x)) (doubled w one q) ∙
          signed_back (2 ^ (w - 1)) (2 ^ (64 - w) - 1) (multiple w one q) z (ltb-true (mag z) (2 ^ (w - 1)) (sym (signed-fits (2 ^ (w - 1)) z) ∙ e)))

  -- what is read fits, and its number has the same low bits
  module _ (b : ℕ) (h : b < 2 ^ w) where
    under : b < 2 * 2 ^ (w - 1)
    under = rw (doubled w one q) at h

    pub value-fits : fits_line l (value_of l.is_signed w b) ≡ true
    value-fits = by l.is_signed
      where
        by : (s : Bool) → fits_line l (value_of s w b) ≡ true
        by false = lt-ltb _ _ h
        by true = signed-fits (2 ^ (w - 1)) (twos_complement (2 ^ (w - 1)) b) ∙ lt-ltb _ _ (magnitude (2 ^ (w - 1)) (2 ^ (64 - w) - 1) (multiple w one q) b under)

    pub value_low : number_of_value (value_of l.is_signed w b) % 2 ^ w ≡ b
    value_low = by l.is_signed
      where
        by : (s : Bool) → number_of_value (value_of s w b) % 2 ^ w ≡ b
        by false = mod-eq_of_lt h
        by true =
            ap (λ (x : ℕ). of_z w64 (twos_complement (2 ^ (w - 1)) b) % x) (doubled w one q) ∙
            bits_back (2 ^ (w - 1)) (2 ^ (64 - w) - 1) (multiple w one q) b under
