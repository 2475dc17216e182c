-- Where the texels of a line end. Assumes nothing.
use mathlib.Core.Path.{◌≡◌}
use Prim.Native.Nat.{ℕ, ◌+◌, ◌*◌, ◌/◌, ◌≤◌, ◌<◌}
use native.Mathlib.Nat.{mul-le-mul_right}
use native.Mathlib.Omega.{arith}
use Rattle.rdp_block.specs.Strips.{LineEnds}

-- the texels from one on to the end of its line are of its line, and it is one of them
module _ (k : ℕ) {line dxt count r : ℕ} (e : LineEnds line dxt count r) (is : line ≡ k / 4 * dxt / 2048) where
  own : k / 4 * dxt < (line + 1) * 2048
  own = omega (arith, is)

  pub line-falls : k < count → k < r
  line-falls h = e.beyond k h own

  pub line_same : (i : ℕ) → k ≤ i → i < r → i / 4 * dxt / 2048 ≡ line
  line_same i l h =
      let high = e.within i h in
      let low : k / 4 * dxt ≤ i / 4 * dxt = mul-le-mul_right dxt (let s : k / 4 ≤ i / 4 = omega arith in s) in
      omega (arith, is)
