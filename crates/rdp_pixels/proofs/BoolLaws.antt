-- Laws of truth values. Assumes nothing.
use mathlib.Core.Path.{◌≡◌, refl, sym}
use mathlib.Core.Logic.{◌⊎◌, inl, inr}
use mathlib.Core.Bool.{Bool, true, false, cond, not, ◌&&◌, ◌||◌, false≢true}
use Prim.Native.Nat.{ℕ}

pub or_is : (a b : Bool) → (a || b) ≡ true → (a ≡ true) ⊎ (b ≡ true)
or_is true b e = inl refl
or_is false b e = inr e

pub or_left : (a b : Bool) → a ≡ true → (a || b) ≡ true
or_left a b e = rw e

pub or_right : (a b : Bool) → b ≡ true → (a || b) ≡ true
or_right true b e = refl
or_right false b e = e

pub and_is : (a b : Bool) → (a && b) ≡ true → (a ≡ true) × (b ≡ true)
and_is true b e = (refl, e)
and_is false b e = absurd (false≢true e)

pub and-true-of : (a b : Bool) → a ≡ true → b ≡ true → (a && b) ≡ true
and-true-of a b e h = rw (e, h)

-- one holds exactly where the other does
pub same_truth : (a b : Bool) → (a ≡ true → b ≡ true) → (b ≡ true → a ≡ true) → a ≡ b
same_truth true b there back = sym (there refl)
same_truth false true there back = back refl
same_truth false false there back = refl

-- one holds exactly where the other does not
pub other-truth : (a b : Bool) → (a ≡ true → b ≡ true → ⊥) → (a ≡ false → b ≡ true) → a ≡ not b
other-truth true true not-both one = absurd (not-both refl refl)
other-truth true false not-both one = refl
other-truth false true not-both one = refl
other-truth false false not-both one = one refl

pub cond-true : (b : Bool) (x y : ℕ) → b ≡ true → cond b x y ≡ x
cond-true b x y e = rw e

pub cond-false : (b : Bool) (x y : ℕ) → b ≡ false → cond b x y ≡ y
cond-false b x y e = rw e
