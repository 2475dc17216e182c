-- Bit 2 of a byte number turned over. Assumes nothing.
use mathlib.Core.Path.{◌≡◌, refl}
use mathlib.Core.Bool.{Bool, true, false, not, cond}
use Prim.Native.Nat.{ℕ, ◌+◌, ◌*◌, ◌/◌, ◌%◌, ◌≤◌, ◌<◌}
use native.Mathlib.Omega.{arith}
use lib.Dec.{eqb}
use Rattle.std.specs.Int.Bits.{bit_xor, xor_add_and}
use Rattle.std.proofs.lemmas.Nat.Bits.{and_pow}
use Rattle.rdp_texels.specs.Texels.{turned, in_row}

-- a const parameter that is a bool, by its bits
abbrev pub flag : ℕ → Bool
flag bits = not (eqb bits 0)

-- bit 2 turned over
pub turned_xor : (b : ℕ) → bit_xor b 4 ≡ turned b
unfolding turned
turned_xor b = omega (arith, xor_add_and b 4, and_pow b 2)

pub turned-twice : (b : ℕ) → turned (turned b) ≡ b
unfolding turned
turned-twice b = omega arith

quarter-same : (b : ℕ) → b % 2 ≡ 0 → (b + 1) / 4 ≡ b / 4
quarter-same b e = let half : b ≡ 2 * (b / 2) = omega arith in omega arith

turned-next : (b : ℕ) → b % 2 ≡ 0 → turned (b + 1) ≡ turned b + 1
unfolding turned
turned-next b e = rw (quarter-same b e) (omega arith)

-- the halves of 8 bytes change places
pub turned-low : (b : ℕ) → b / 4 % 2 ≡ 0 → turned b ≡ b + 4
unfolding turned
turned-low b e = omega arith

pub turned-high : (b : ℕ) → b / 4 % 2 ≡ 1 → turned b + 4 ≡ b
unfolding turned
turned-high b e = omega arith

pub turned-below : (b k : ℕ) → b < 8 * k → turned b < 8 * k
unfolding turned
turned-below b k h = omega arith

pub turned-above : (b k : ℕ) → 8 * k ≤ b → 8 * k ≤ turned b
unfolding turned
turned-above b k h = omega arith

pub row-twice : (odd : Bool) (b : ℕ) → in_row odd (in_row odd b) ≡ b
row-twice true b = turned-twice b
row-twice false b = refl

pub row_next : (odd : Bool) (b : ℕ) → b % 2 ≡ 0 → in_row odd (b + 1) ≡ in_row odd b + 1
row_next true b e = turned-next b e
row_next false b e = refl

pub row_below : (odd : Bool) (b k : ℕ) → b < 8 * k → in_row odd b < 8 * k
row_below true b k h = turned-below b k h
row_below false b k h = h

pub row-below-is : (odd : Bool) (b k : ℕ) → in_row odd b < 8 * k → b < 8 * k
row-below-is odd b k h = rw (row-twice odd b) at (row_below odd (in_row odd b) k h)

-- in eight bytes that start at a multiple of 8
module _ (d : ℕ) (whole : d % 8 ≡ 0) where
  pub turned_on : (j : ℕ) → turned (d + j) ≡ d + turned j
  unfolding turned
  turned_on j = let at : d ≡ 8 * (d / 8) = omega arith in omega arith

-- a byte of texture memory stays in it
turned-inside : (b n : ℕ) → n ≡ 4096 → b < n → turned b < n
turned-inside b n e h = rw e (turned-below b 512 (rw e at h))

pub inside-to : (into : Bool) (b from to : ℕ) → cond into to from ≡ 4096 → b < to → in_row into b < to
inside-to true b from to e h = turned-inside b to e h
inside-to false b from to e h = h

pub inside-from : (into : Bool) (b from to : ℕ) → cond into to from ≡ 4096 → b < from → in_row (not into) b < from
inside-from true b from to e h = h
inside-from false b from to e h = turned-inside b from e h
