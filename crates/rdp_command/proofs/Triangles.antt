-- The numbers 0x08 to 0x0F. Assumes nothing.
use Prim.Native.Nat.{ℕ, ◌/◌, ◌<◌}
use mathlib.Core.Path.{◌≡◌}
use native.Mathlib.Omega.{arith}
use borrow.Author.Tests.{eq-eqb}
use Rattle.rdp_command.specs.Layout.{layout, triangle_base_lines}
use Rattle.rdp_command.specs.Commands.{number_of}
use Rattle.rdp_command.specs.declared.TriangleBase.{TriangleBase}
use Rattle.rdp_command.specs.declared.Command.TheVariants.{FillTriangle}
use Rattle.rdp_command.proofs.Signed.{bool_le}

pub layout-at : (n : ℕ) → n / 8 ≡ 1 → layout n ≡ triangle_base_lines
unfolding layout
layout-at n e = rw (eq-eqb _ _ e)

pub triangle-eighth : (g : TriangleBase) → number_of (FillTriangle g) / 8 ≡ 1
triangle-eighth g = omega (arith, bool_le g.shade, bool_le g.texture, bool_le g.zbuffer)

pub triangle-layout : (g : TriangleBase) → layout (number_of (FillTriangle g)) ≡ triangle_base_lines
triangle-layout g = layout-at (number_of (FillTriangle g)) (triangle-eighth g)

pub triangle-small : (g : TriangleBase) → number_of (FillTriangle g) < 64
triangle-small g = omega (arith, bool_le g.shade, bool_le g.texture, bool_le g.zbuffer)
