use Prim.Native.Nat.{◌*◌, ◌-◌}
use native.Mathlib.Omega.{arith}
use mathlib.Core.Path.{◌≡◌, ap, ◌∙◌}
use lib.IntN.{pos, negsuc}
use mir.Syntax.{w16}
use mir.Val.{to_z}
use mir.ValLaws.{to_z_pos, to_z-of_z}
use borrow.Author.Tests.{lt-ltb, le-ltb}
use Rattle.rdp_command.specs.Fields.{twos_complement}
use Rattle.rdp_command.proofs.Signed.{minus_one}
use Rattle.rdp_command.proofs.read.sign_extend.Goals.{Else-raw-half}
use Rattle.rdp_command.proofs.read.sign_extend.Goals as goal

-- the distance below -1 is small
low : (c : Else-raw-half) → to_z w16 (2 * c.args.half - 1 - c.args.raw) ≡ pos (2 * c.args.half - 1 - c.args.raw)
low c = to_z_pos w16 (2 * c.args.half - 1 - c.args.raw) (omega arith)

-- src/fields.rt:18:9
pub overflow_sub-result-else-raw-half-2 : goal.overflow_sub-result-else-raw-half-2
overflow_sub-result-else-raw-half-2 c = rw (low c, minus_one) (record { sfits = omega arith })

-- src/fields.rt:11:1
pub returns-then-raw-half : goal.returns-then-raw-half
unfolding twos_complement
returns-then-raw-half c = simp (lt-ltb _ _ c.if-raw-half.true) (to_z_pos w16 c.args.raw (omega arith))

pub returns-else-raw-half : goal.returns-else-raw-half
unfolding twos_complement
returns-else-raw-half c =
    rw (low c, minus_one, le-ltb _ _ c.if-raw-half.false)
    (to_z-of_z w16 (negsuc (2 * c.args.half - 1 - c.args.raw)) (record { sfits = omega arith }) ∙ ap negsuc (omega arith))
