-- Laws of `one_of`. Assumes nothing.
use mathlib.Core.Path.{◌≡◌, refl, ap₂}
use mathlib.Core.Logic.{⊎_elim}
use mathlib.Core.Bool.{Bool, true, ◌||◌, false≢true}
use Prim.Native.Nat.{ℕ, zero, suc, ◌+◌, ◌≤◌, ◌<◌}
use native.Mathlib.Omega.{arith}
use Rattle.rdp_pixels.specs.Range.{one_of}
use Rattle.rdp_pixels.proofs.BoolLaws.{or_is, or_left, or_right}
use Rattle.rdp_pixels.proofs.OverlayLaws.{split}

pub one-is : (k n : ℕ) (test : ℕ → Bool) → one_of k n test ≡ true → (i : ℕ) × (k ≤ i) × (i < k + n) × (test i ≡ true)
unfolding one_of
one-is k zero test e = absurd (false≢true e)
one-is k (suc n) test e =
    ⊎_elim (λ here. (k, omega arith, omega arith, here))
    (λ later. let r = one-is (suc k) n test later in (r.0, omega arith, omega arith, r.3))
    (or_is (test k) (one_of (suc k) n test) e)

pub one-true : (k n : ℕ) (test : ℕ → Bool) (i : ℕ) → k ≤ i → i < k + n → test i ≡ true → one_of k n test ≡ true
unfolding one_of
one-true k zero test i l h e = absurd (omega arith)
one-true k (suc n) test i l h e =
    split i k
    (λ same. let here : i ≡ k = omega arith in or_left (test k) (one_of (suc k) n test) (rw here at e))
    (λ more. or_right (test k) (one_of (suc k) n test) (one-true (suc k) n test i (omega arith) (omega arith) e))

-- another test that says the same of each number
pub one-cong : (p q : ℕ → Bool) (k n : ℕ) → ((i : ℕ) → p i ≡ q i) → one_of k n p ≡ one_of k n q
unfolding one_of
one-cong p q k zero h = refl
one-cong p q k (suc n) h = ap₂ (λ (a b : Bool). a || b) (h k) (one-cong p q (suc k) n h)
