-- Laws of `moves_over` and `some`. Assumes nothing.
use mathlib.Core.Path.{◌≡◌, refl, sym, ap, ap₂, ◌∙◌}
use mathlib.Core.Bool.{Bool, true, false, ◌||◌, or-false}
use mathlib.Core.List.{List, [], ◌∷◌, ◌++◌, append_assoc, append-nil}
use Prim.Native.Nat.{ℕ, zero, suc, ◌+◌, ◌-◌, ◌≤◌, ◌<◌}
use native.Mathlib.Nat.{add-zero}
use native.Mathlib.Omega.{arith}
use Rattle.rdp_pixels.specs.Range.{one_of}
use Rattle.rdp_pixels.proofs.RangeLaws.{one-is, one-true}
use Rattle.rdp_pixels.proofs.OverlayLaws.{split}
use Rattle.rdp_texels.specs.Texels.{Move, some, moves_over}

-- ---- each

module _ (f : ℕ → List Move) where
  pub over-append : (k n m : ℕ) → moves_over k (n + m) f ≡ moves_over k n f ++ moves_over (k + n) m f
  unfolding moves_over
  over-append k zero m = let e : 0 + m ≡ m = omega arith in rw (e, add-zero)
  over-append k (suc n) m =
      let e : suc n + m ≡ suc (n + m) = omega arith in
      let e' : k + suc n ≡ suc k + n = omega arith in
      rw (e, e') (ap (λ (l : List Move). f k ++ l) (over-append (suc k) n m) ∙ sym (append_assoc (f k) (moves_over (suc k) n f) (moves_over (suc k + n) m f)))

  pub over_none : (k n : ℕ) → ((i : ℕ) → k ≤ i → i < k + n → f i ≡ []) → moves_over k n f ≡ []
  unfolding moves_over
  over_none k zero h = refl
  over_none k (suc n) h =
      rw (h k (omega arith) (omega arith)) (over_none (suc k) n (λ i l u. h i (omega arith) (omega arith)))

pub over-cong : (f g : ℕ → List Move) (k n : ℕ) → ((i : ℕ) → k ≤ i → i < k + n → f i ≡ g i) → moves_over k n f ≡ moves_over k n g
unfolding moves_over
over-cong f g k zero h = refl
over-cong f g k (suc n) h =
    ap₂ (λ (a b : List Move). a ++ b) (h k (omega arith) (omega arith)) (over-cong f g (suc k) n (λ i l u. h i (omega arith) (omega arith)))

-- numbers that give nothing are left out at both ends
pub over-trim : (f : ℕ → List Move) (k n first end : ℕ)
    → ((i : ℕ) → k ≤ i → i < k + n → (first ≤ i → i < end → ⊥) → f i ≡ [])
    → (first < end → (k ≤ first) × (end ≤ k + n)) → moves_over k n f ≡ moves_over first (end - first) f
unfolding moves_over
over-trim f k n first end out within =
    split end first
    (λ none.
    let e : end - first ≡ 0 = omega arith in
    rw e (over_none f k n (λ i l u. out i l u (λ x y. omega arith))))
    (λ some.
    let inside = within some in
    let before : ℕ = first - k in
    let middle : ℕ = end - first in
    let after : ℕ = k + n - end in
    let count : n ≡ before + (middle + after) = omega arith in
    let at : k + before ≡ first = omega arith in
    let at' : first + middle ≡ end = omega arith in
    let first-none : moves_over k before f ≡ [] = over_none f k before (λ i l u. out i l (omega arith) (λ x y. omega arith)) in
    let last_none : moves_over end after f ≡ [] = over_none f end after (λ i l u. out i (omega arith) (omega arith) (λ x y. omega arith)) in
    ap (λ (c : ℕ). moves_over k c f) count
    ∙ over-append f k before (middle + after)
    ∙ rw (first-none, at) (over-append f first middle after ∙ rw (at', last_none) (append-nil (moves_over first middle f))))

-- ---- some

module _ (test : Move → Bool) where
  pub some-nothing : some test [] ≡ false
  unfolding some
  some-nothing = refl

  pub some-single : (m : Move) → some test (m ∷ []) ≡ test m
  unfolding some
  some-single m = or-false (test m)

  pub some-append : (xs ys : List Move) → some test (xs ++ ys) ≡ (some test xs || some test ys)
  unfolding some
  some-append [] ys = refl
  some-append (x ∷ xs) ys = rw (some-append xs ys) (or_assoc (test x) (some test xs) (some test ys))
    where
      or_assoc : (a b c : Bool) → (a || (b || c)) ≡ ((a || b) || c)
      or_assoc true b c = refl
      or_assoc false b c = refl

  -- a test of the moves of some numbers is a test of the numbers
  pub some-over : (f : ℕ → List Move) (k n : ℕ) → some test (moves_over k n f) ≡ one_of k n (λ i. some test (f i))
  unfolding some moves_over one_of
  some-over f k zero = refl
  some-over f k (suc n) = some-append (f k) (moves_over (suc k) n f) ∙ ap (λ (b : Bool). some test (f k) || b) (some-over f (suc k) n)

  module _ (f : ℕ → List Move) (k n : ℕ) where
    pub some-over-is : some test (moves_over k n f) ≡ true → (i : ℕ) × (k ≤ i) × (i < k + n) × (some test (f i) ≡ true)
    some-over-is e = one-is k n (λ i. some test (f i)) (sym (some-over f k n) ∙ e)

    pub some-over-true : (i : ℕ) → k ≤ i → i < k + n → some test (f i) ≡ true → some test (moves_over k n f) ≡ true
    some-over-true i l h e = some-over f k n ∙ one-true k n (λ i. some test (f i)) i l h e
