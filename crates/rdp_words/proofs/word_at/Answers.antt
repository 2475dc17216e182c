use Prim.Native.Nat.{◌+◌, ◌*◌, ◌^◌}
use mathlib.Core.Path.{ap, sym, ◌∙◌}
use native.Mathlib.Omega.{arith}
use lib.Seq.{drop-drop}
use borrow.Author.Tests.{lt-ltb, le-ltb}
use Rattle.rdp_words.specs.Words.{half_of, word_at}
use Rattle.rdp_words.proofs.word_at.Goals as goal

pub overflow_mul-result : goal.overflow_mul-result
overflow_mul-result c = omega (arith, c.half_at.ensures.1)

pub overflow_add-result : goal.overflow_add-result
overflow_add-result c = omega (arith, c.half_at.ensures.1, c.half_at-then-place-list.ensures.1)

pub returns-then-place-list : goal.returns-then-place-list
unfolding word_at
returns-then-place-list c =
    let list = c.args.list.now in
    let at = 8 * c.args.place in
    rw (lt-ltb _ _ c.if-place-list.true)
    (λ i. c.half_at.ensures.0 i * 2 ^ 32 + (c.half_at-then-place-list.ensures.0 ∙ ap half_of (sym (drop-drop 4 at list))) i)

pub returns-else-place-list : goal.returns-else-place-list
unfolding word_at
returns-else-place-list c = rw (le-ltb _ _ c.if-place-list.false)
