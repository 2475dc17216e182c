-- A rule that is shown for every number below a bound by one test that antt computes. Assumes nothing.
use mathlib.Core.Path.{◌≡◌, refl}
use mathlib.Core.Bool.{Bool, true, false, not, ◌&&◌, ◌||◌, true≢false, false≢true}
use Prim.Native.Nat.{ℕ, zero, suc, ◌<◌}
use native.Mathlib.Nat.{not-suc-le-zero}
use native.Mathlib.Omega.{arith}
use lib.Dec.{T, eqb}
use borrow.Author.Tests.{eqb-true, eqb-false}

pub both : (a b : Bool) → T (a && b) → T a × T b
both true b t = (tt, t)
both false b t = absurd t

pub both_of : (a b : Bool) → T a → T b → T (a && b)
both_of true b t u = u
both_of false b t u = absurd t

pub and-true : (a b : Bool) → a && b ≡ true → (a ≡ true) × (b ≡ true)
and-true true b e = (refl, e)
and-true false b e = (e, absurd (false≢true e))

pub or_cases : {P : Type 0} (a b : Bool) → a || b ≡ true → (a ≡ true → P) → (b ≡ true → P) → P
or_cases true b e p q = p refl
or_cases false b e p q = q e

pub true_of : (b : Bool) → T b → b ≡ true
true_of true t = refl
true_of false t = absurd t

pub false_of : (b : Bool) → T (not b) → b ≡ false
false_of true t = absurd t
false_of false t = refl

pub neither : (a b : Bool) → a || b ≡ false → (a ≡ false) × (b ≡ false)
neither true b e = absurd (true≢false e)
neither false b e = (refl, e)

-- the test f passes at each number below k
abbrev pub each : (ℕ → Bool) → ℕ → Bool
each f zero = true
each f (suc k) = f k && each f k

top : (k : ℕ) (f : ℕ → Bool) (n : ℕ) → n < suc k → T (f k) → (n < k → T (f n)) → (b : Bool) → eqb n k ≡ b → T (f n)
top k f n h t rest true e = rw (eqb-true n k e) t
top k f n h t rest false e = rest (omega (arith, eqb-false n k e))

pub below : (k : ℕ) (f : ℕ → Bool) → T (each f k) → (n : ℕ) → n < k → T (f n)
below zero f t n h = absurd (not-suc-le-zero h)
below (suc k) f t n h =
    let r = both (f k) (each f k) t in
    top k f n h r.0 (below k f r.1 n) (eqb n k) refl

abbrev pub same : Bool → Bool → Bool
same true b = b
same false true = false
same false false = true

pub same_bool : (a b : Bool) → T (same a b) → a ≡ b
same_bool true true t = refl
same_bool true false t = absurd t
same_bool false true t = absurd t
same_bool false false t = refl

pub by-test : {P : Type 0} (b : Bool) → (b ≡ true → P) → (b ≡ false → P) → P
by-test true p q = p refl
by-test false p q = q refl
