-- `rdp_check::walk::walk` meets its contract. The loop's invariant: the judgement of what is left is that of the whole list from the first view, and the numbers that are
-- watched are those of the commands that must be. The measure is what is left of the words. Assumes nothing.
use mathlib.Core.Path.{ap, sym, ◌∙◌}
use Rattle.rdp_words.specs.Grounds.{number_if}
use Rattle.rdp_words.proofs.GroundLaws.{refused-number}
use Prim.Native.Nat.{◌<◌}
use native.Mathlib.Omega.{arith}
use Rattle.rdp_hazards.proofs.HazardLaws.{next-read}
use Rattle.rdp_check.specs.View.{view_after}
use Rattle.rdp_words.proofs.PlaceLaws.{number_small}
use Rattle.rdp_check.proofs.WalkLaws.{first, ended, past, refused, falls, again, turn, stays, quick, quick-one}
use Rattle.std.proofs.Common.{not, ap}
use Rattle.rdp_check.proofs.walk.walk.Goals as goal

pub loop-at-init : goal.loop-at-init
loop-at-init c = let p = c.requires in (first _ _ _ _ p.1.1 p.0 p.1.0, c.watched_of-watched.ensures)

pub entry-e-requires : goal.entry-e-requires
entry-e-requires c = (c.loop-at.invariant.0.low, rw c.head_at-head.ensures (number_small _))

pub overflow_add-at : goal.overflow_add-at
overflow_add-at c = let w = c.loop-at.invariant.0 in omega (arith, c.loop-at-test.true, w.few)

pub loop-at-smaller-then-e-hazards : goal.loop-at-smaller-then-e-hazards
loop-at-smaller-then-e-hazards c = omega (arith, c.loop-at-test.true)

pub loop-at-preserved-then-e-hazards : goal.loop-at-preserved-then-e-hazards
loop-at-preserved-then-e-hazards c =
    let l = c.loop-at in
    let agree = c.args.table.now.agrees in
    let small : c.head_at-head.result.number < 64 = rw c.head_at-head.ensures (number_small _) in
    let q = turn l.invariant.0 _ l.invariant.1 c.loop-at-test.true _ c.head_at-head.ensures _ c.entry-e.ensures _ c.is_among.ensures _ c.clear_below-clear.ensures c.if-e-clear.true in
    (quick-one q (stays q c.if-e-hazards.true) _ c.is_among-then-e-clear.ensures (ap not c.if-not-is_among.true), l.invariant.1)

pub loop-at-smaller-then-not-is_among : goal.loop-at-smaller-then-not-is_among
loop-at-smaller-then-not-is_among c = omega (arith, c.loop-at-test.true)

pub loop-at-preserved-then-not-is_among : goal.loop-at-preserved-then-not-is_among
loop-at-preserved-then-not-is_among c =
    let l = c.loop-at in
    let agree = c.args.table.now.agrees in
    let small : c.head_at-head.result.number < 64 = rw c.head_at-head.ensures (number_small _) in
    let q = turn l.invariant.0 _ l.invariant.1 c.loop-at-test.true _ c.head_at-head.ensures _ c.entry-e.ensures _ c.is_among.ensures _ c.clear_below-clear.ensures c.if-e-clear.true in
    (quick-one q (c.next-hazards.ensures ∙ next-read _ agree _ _ l.invariant.0.low small) _ c.is_among-then-e-clear.ensures (ap not c.if-not-is_among.true), l.invariant.1)

pub overflow_sub-words : goal.overflow_sub-words
overflow_sub-words c = omega (arith, c.loop-at-test.true)

pub answer-requires : goal.answer-requires
answer-requires c = let w = c.loop-at.invariant.0 in omega (arith, w.within, w.few)

pub returns-then-words-at : goal.returns-then-words-at
returns-then-words-at c =
    c.answer.ensures ∙
    past c.loop-at.invariant.0 c.loop-at-test.true _ (ap (λ x. x.number) c.head_at-head.ensures) _ c.words_of-count.ensures c.if-words-at.true

pub overflow_add-at-then-e-clear : goal.overflow_add-at-then-e-clear
overflow_add-at-then-e-clear c = let w = c.loop-at.invariant.0 in omega (arith, c.if-words-at.false, w.within, w.few)

pub loop-at-smaller-then-e-clear : goal.loop-at-smaller-then-e-clear
loop-at-smaller-then-e-clear c =
    falls c.loop-at.invariant.0 c.loop-at-test.true _ (ap (λ x. x.number) c.head_at-head.ensures) _ c.words_of-count.ensures c.if-words-at.false

pub loop-at-preserved-then-e-clear : goal.loop-at-preserved-then-e-clear
loop-at-preserved-then-e-clear c =
    let l = c.loop-at in
    let agree = c.args.table.now.agrees in
    let small : c.head_at-head.result.number < 64 = rw c.head_at-head.ensures (number_small _) in
    let q = turn l.invariant.0 _ l.invariant.1 c.loop-at-test.true _ c.head_at-head.ensures _ c.entry-e.ensures _ c.is_among.ensures _ c.clear_below-clear.ensures c.if-e-clear.true in
    (quick q (c.next-hazards-then-e-clear.ensures ∙ next-read _ agree _ _ l.invariant.0.low small) _ c.words_of-count.ensures c.if-words-at.false, l.invariant.1)

pub advance-advanced-requires : goal.advance-advanced-requires
advance-advanced-requires c =
    let small : c.head_at-head.result.number < 64 = rw c.head_at-head.ensures (number_small _) in
    (small, c.entry-e.ensures)

pub overflow_sub-words-in-loop-at : goal.overflow_sub-words-in-loop-at
overflow_sub-words-in-loop-at c = omega (arith, c.loop-at-test.true)

pub answer-requires-then-words-at-2 : goal.answer-requires-then-words-at-2
answer-requires-then-words-at-2 c = let w = c.loop-at.invariant.0 in omega (arith, w.within, w.few)

pub returns-then-words-at-2 : goal.returns-then-words-at-2
returns-then-words-at-2 c =
    c.answer-then-words-at-2.ensures ∙
    past c.loop-at.invariant.0 c.loop-at-test.true _ (ap (λ x. x.number) c.head_at-head.ensures) _ c.advance-advanced.ensures.words c.if-words-at-2.true

pub answer-requires-in-Some : goal.answer-requires-in-Some
answer-requires-in-Some c = let w = c.loop-at.invariant.0 in omega (arith, w.within, w.few)

pub returns-in-Some : goal.returns-in-Some
returns-in-Some c =
    let a = c.advance-advanced.ensures in
    c.answer-in-Some.ensures ∙
    refused c.loop-at.invariant.0 c.loop-at-test.true _ (ap (λ x. x.number) c.head_at-head.ensures) _ a.words c.if-words-at-2.false _ (sym (ap number_if c.in-Some.is) ∙ a.refusal) (refused-number _)

pub overflow_add-at-in-loop-at : goal.overflow_add-at-in-loop-at
overflow_add-at-in-loop-at c = let w = c.loop-at.invariant.0 in omega (arith, c.if-words-at-2.false, w.within, w.few)

pub loop-at-smaller : goal.loop-at-smaller
loop-at-smaller c =
    falls c.loop-at.invariant.0 c.loop-at-test.true _ (ap (λ x. x.number) c.head_at-head.ensures) _ c.advance-advanced.ensures.words c.if-words-at-2.false

pub loop-at-preserved : goal.loop-at-preserved
loop-at-preserved c =
    let h = c.head_at-head.ensures in
    let a = c.advance-advanced.ensures in (
      again c.loop-at.invariant.0 c.loop-at-test.true _ (ap (λ x. x.number) h) _ a.words c.if-words-at-2.false _ a.refusal (ap number_if c.in_default.is) _ (a.after ∙ ap (view_after _) h),
      c.watched_of-watched-in-loop-at.ensures,
    )

pub answer-requires-2 : goal.answer-requires-2
answer-requires-2 c = let w = c.loop-at.invariant.0 in w.few

pub returns : goal.returns
returns c = c.answer-2.ensures ∙ ended c.loop-at.invariant.0 c.loop-at-test.false
