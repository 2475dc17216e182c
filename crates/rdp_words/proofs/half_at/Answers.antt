use Prim.Native.Nat.{ℕ, ◌+◌, ◌*◌, ◌^◌}
use mathlib.Core.Path.{ap, sym, ◌∙◌}
use native.Mathlib.Nat.{add-zero}
use native.Mathlib.Omega.{arith}
use lib.ListN.{get_or}
use lib.Seq.{get_or-drop}
use Rattle.rdp_words.specs.Words.{half_of}
use Rattle.rdp_words.proofs.half_at.Goals as goal

pub overflow_cast-result : goal.overflow_cast-result
overflow_cast-result c = omega (arith, c.shared_slice_known-1.given c.args.at)

pub overflow_mul-result : goal.overflow_mul-result
overflow_mul-result c = omega (arith, c.shared_slice_known-1.given c.args.at)

pub overflow_cast-result-2 : goal.overflow_cast-result-2
overflow_cast-result-2 c = omega (arith, c.shared_slice_known-2-1.given (c.args.at + 1))

pub overflow_mul-result-2 : goal.overflow_mul-result-2
overflow_mul-result-2 c = omega (arith, c.shared_slice_known-2-1.given (c.args.at + 1))

pub overflow_add-result-2 : goal.overflow_add-result-2
overflow_add-result-2 c = omega (arith, c.shared_slice_known-2-1.given c.args.at, c.shared_slice_known-2-1.given (c.args.at + 1))

pub overflow_cast-result-3 : goal.overflow_cast-result-3
overflow_cast-result-3 c = omega (arith, c.shared_slice_known-3-1.given (c.args.at + 2))

pub overflow_mul-result-3 : goal.overflow_mul-result-3
overflow_mul-result-3 c = omega (arith, c.shared_slice_known-3-1.given (c.args.at + 2))

pub overflow_add-result-4 : goal.overflow_add-result-4
overflow_add-result-4 c = omega (arith, c.shared_slice_known-3-1.given c.args.at, c.shared_slice_known-3-1.given (c.args.at + 1), c.shared_slice_known-3-1.given (c.args.at + 2))

pub overflow_cast-result-4 : goal.overflow_cast-result-4
overflow_cast-result-4 c = omega (arith, c.shared_slice_known-4-1.given (c.args.at + 3))

pub overflow_add-result-6 : goal.overflow_add-result-6
overflow_add-result-6 c = omega (arith, c.shared_slice_known-4-1.given c.args.at, c.shared_slice_known-4-1.given (c.args.at + 1), c.shared_slice_known-4-1.given (c.args.at + 2), c.shared_slice_known-4-1.given (c.args.at + 3))

pub returns : goal.returns
unfolding half_of
returns c =
    let list = c.args.list.now in
    let at = c.args.at in (
      λ i.
          (ap (λ (k : ℕ). get_or list k 0) (sym (add-zero at)) ∙ sym (get_or-drop at list 0 0)) i * 2 ^ 24 + sym (get_or-drop at list 1 0) i * 2 ^ 16 + sym (get_or-drop at list 2 0) i * 2 ^ 8 +
          sym (get_or-drop at list 3 0) i,
      omega (arith, c.shared_slice_known-4-1.given c.args.at, c.shared_slice_known-4-1.given (c.args.at + 1), c.shared_slice_known-4-1.given (c.args.at + 2), c.shared_slice_known-4-1.given (c.args.at + 3)),
    )
