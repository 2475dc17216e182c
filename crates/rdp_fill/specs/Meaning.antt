-- Document 01, "Fill", as relations; `proofs/PixelLaws` shows that the tests of `Fill` are the tests of these.
use Rattle.std.specs.Prelude.{◌≡◌, true, cond, ℕ, ◌+◌, ◌*◌, ◌/◌, ◌%◌, ◌≤◌, ◌<◌}
use Rattle.rdp_command.specs.declared.FillFields.{FillFields}
use Rattle.rdp_fill.specs.Fill.{bytes_per_pixel, pixel_address}

-- pixel (x, y) is one of the rectangle's, and the scissor keeps it
pub record IsFilled (f : FillFields) (x y : ℕ) : Type 0 where
  pub columns : (f.rectangle.upper_left.x / 4 ≤ x) × (x ≤ f.rectangle.lower_right.x / 4)
  pub rows : (f.rectangle.upper_left.y / 4 ≤ y) × (y ≤ f.rectangle.lower_right.y / 4)
  pub across : (f.scissor.upper_left.x ≤ 4 * x) × (4 * x < f.scissor.lower_right.x)
  pub down : (f.scissor.upper_left.y ≤ 4 * y) × (4 * y < f.scissor.lower_right.y)
  pub parity : f.scissor.«field» ≡ true → y % 2 ≡ cond f.scissor.odd 1 0

-- a byte of a kept pixel stands at address a
pub record Covers (f : FillFields) (a : ℕ) : Type 0 where
  pub x : ℕ
  pub y : ℕ
  pub kept : IsFilled f x y
  pub start : pixel_address f.image x y ≤ a
  pub end : a < pixel_address f.image x y + bytes_per_pixel f.image.size
