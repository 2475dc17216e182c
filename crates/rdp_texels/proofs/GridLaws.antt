-- Rows of a grid of which every row fits. Assumes nothing.
use mathlib.Core.Path.{◌≡◌}
use mathlib.Core.Bool.{Bool, true, cond}
use Prim.Native.Nat.{ℕ, ◌+◌, ◌-◌, ◌*◌, ◌%◌, ◌≤◌, ◌<◌}
use native.Mathlib.Nat.{mul-le-mul_right}
use native.Mathlib.Omega.{arith}
use borrow.Author.Tests.{leb-true}
use lib.Dec.{leb}
use Rattle.rdp_pixels.proofs.BoolLaws.{and_is}
use Rattle.rdp_texels.specs.Rows.{Grid, Span, lies, Ready, grid_address, grid_ahead}
use Rattle.rdp_texels.proofs.CornerLaws.{even-texel}

-- ---- a row

pub record RowFits (g : Grid) (q : Span) (len y : ℕ) : Type 0 where
  pub memory : g.start ≤ grid_address g y q.left
  pub memory-end : grid_address g y q.left - g.start + 2 * (q.right - q.left) ≤ len
  pub texture : g.behind ≤ grid_ahead g y q.left
  pub texture-end : grid_ahead g y q.left - g.behind + 2 * (q.right - q.left) ≤ 4096
  pub even : (grid_ahead g y q.left - g.behind) % 2 ≡ 0

-- every row of a span lies where its corners do
module _ (base stride : ℕ) (q : Span) (low size y : ℕ) (is : lies base stride q low size ≡ true) (columns : q.left < q.right) (from : q.top ≤ y)
    (to : y < q.bottom) where
  row_lies : (low ≤ base + y * stride + 2 * q.left) × (base + y * stride + 2 * q.left - low + 2 * (q.right - q.left) ≤ size)
  row_lies =
      let first : ℕ = base + q.top * stride + 2 * q.left in
      let end : ℕ = base + (q.bottom - 1) * stride + 2 * q.right in
      let parts = and_is (leb low first) (leb end (low + size)) is in
      let a = leb-true low first parts.0 in
      let b = leb-true end (low + size) parts.1 in
      let above : q.top * stride ≤ y * stride = mul-le-mul_right stride from in
      let below : y * stride ≤ (q.bottom - 1) * stride = mul-le-mul_right stride (omega arith) in
      (omega arith, omega arith)

pub row_fits : {into : Bool} {g : Grid} {q : Span} {from to : ℕ} → Ready into g q from to → (y : ℕ) → q.top ≤ y → y < q.bottom
    → RowFits g q (cond into from to) y
row_fits {into} {g} {q} {from} {to} r y low high =
    let m = row_lies g.address g.pitch q g.start (cond into from to) y r.memory r.columns low high in
    let t = row_lies g.ahead g.line q g.behind 4096 y r.texture r.columns low high in
    record { memory = m.0; memory-end = m.1; texture = t.0; texture-end = t.1; even = even-texel g r.even y q.left }
