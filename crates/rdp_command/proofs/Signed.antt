-- Two's complement numbers in signed locals. Assumes nothing.
use Prim.Native.Nat.{ℕ, zero, suc, ◌+◌, ◌<◌, ◌≤◌, ◌-◌, ◌^◌}
use mathlib.Core.Path.{◌≡◌, refl, ap, ◌∙◌}
use native.Mathlib.Nat.{zero-add}
use native.Mathlib.Omega.{arith}
use borrow.Author.Tests.{le-ltb}
use lib.IntN.{ℤ, pos, negsuc, ◌+ℤ◌, ◌-ℤ◌}
use lib.Signed.{mag}
use mir.Syntax.{w16, w32}
use mir.Val.{SFits, to_z, of_z, bool_byte}
use mathlib.Core.Bool.{Bool, true, false}
use lib.Dec.{lit≤}
use mir.Facts.{to_z-of_z, sfits_widen}

-- a signed number of 16 bits with 2 ^ 16 added to it
unfoldable pub excess_of : ℤ → ℕ
excess_of (pos n) = n + 2 ^ 16
excess_of (negsuc n) = 2 ^ 16 - suc n

-- a call's result, as a local holds it, is what the call ensures
pub read_back : {r z : ℤ} → mag r < 2 ^ 15 → r ≡ z → to_z w16 (of_z w16 r) ≡ z
read_back f e = to_z-of_z {w = w16} (record { sfits = f }) ∙ e

pub minus_one : (k : ℕ) → negsuc 0 -ℤ pos k ≡ negsuc k
minus_one zero = refl
minus_one (suc n) = ap (λ (m : ℕ). negsuc (suc m)) (zero-add n)

-- 2 ^ 16 added to a number of 16 bits
plus : (z : ℤ) → mag z < 2 ^ 15 → z +ℤ pos 65536 ≡ pos (excess_of z)
unfolding excess_of
plus (pos n) h = refl
plus (negsuc n) h = rw (le-ltb 65536 (suc n) (omega arith))

pub excess_lt : (z : ℤ) → mag z < 2 ^ 15 → excess_of z < 2 ^ 17
unfolding excess_of
excess_lt (pos n) h = omega arith
excess_lt (negsuc n) h = omega arith

module _ (z : ℤ) (f : SFits w16 z) where
  -- the sum as the machine has it, out of two signed locals
  pub machine-plus : to_z w32 (of_z w32 (to_z w16 (of_z w16 z))) +ℤ pos 65536 ≡ pos (excess_of z)
  machine-plus =
      ap (λ (y : ℤ). to_z w32 (of_z w32 y) +ℤ pos 65536) (to_z-of_z {w = w16} f) ∙
      ap (λ (y : ℤ). y +ℤ pos 65536) (to_z-of_z {w = w32} (sfits_widen {w = w16} {w' = w32} tt f)) ∙
      plus z f.sfits

  pub excess-fits : SFits w32 (pos (excess_of z))
  excess-fits = record { sfits = omega (arith, excess_lt z f.sfits) }

  pub machine-excess : to_z w32 (of_z w32 (to_z w32 (of_z w32 (to_z w16 (of_z w16 z))) +ℤ pos 65536)) ≡ pos (excess_of z)
  machine-excess = ap (λ (y : ℤ). to_z w32 (of_z w32 y)) machine-plus ∙ to_z-of_z {w = w32} excess-fits

pub bool_le : (b : Bool) → bool_byte b ≤ 1
bool_le true = lit≤ tt
bool_le false = lit≤ tt
