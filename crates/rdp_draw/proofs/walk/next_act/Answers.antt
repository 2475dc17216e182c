-- `rdp_draw::walk::next_act` meets its contract. The loop's invariant: what was due at its start is due here. The measure is what is left of the words.
-- Assumes nothing.
use mathlib.Core.Path.{refl, ap}
use Rattle.rdp_draw.proofs.SeenLaws.{walk_first, walk_none, walk-found, walk-skip, walk-load, walk-set}
use Rattle.rdp_draw.proofs.walk.next_act.Goals.{then-is_among-2+else-is_among-3, else-is_among-2}
use Rattle.rdp_draw.proofs.walk.next_act.Goals as goal

pub loop-at-init : goal.loop-at-init
loop-at-init c = walk_first _ _ _ _ refl

pub returns-then-is_among : goal.returns-then-is_among
returns-then-is_among c =
    walk-found c.loop-at.invariant c.loop-at-test.true _ (ap (λ x. x.number) c.head_at-head.ensures) _ c.is_among.ensures c.if-is_among.true

pub returns-then-is_among-3 : goal.returns-then-is_among-3
returns-then-is_among-3 c =
    walk-load c.loop-at.invariant c.loop-at-test.true _ (ap (λ x. x.number) c.head_at-head.ensures) _ c.is_among.ensures c.if-is_among.false _
    c.word_at.ensures _ c.store.ensures _ c.is_among-then-is_among-2.ensures c.if-is_among-3.true

pub loop-at-preserved : goal.loop-at-preserved
loop-at-preserved c =
    let number = ap (λ x. x.number) c.head_at-head.ensures in
    elim c.if-is_among-2.branch [
      | then-is_among-2+else-is_among-3 w ↦ rw w.file-is (walk-set c.loop-at.invariant c.loop-at-test.true _ number _ c.is_among.ensures c.if-is_among.false _
          w.word_at.ensures _ w.store.ensures _ w.is_among-then-is_among-2.ensures w.if-is_among-3.false)
      | else-is_among-2 w ↦ rw w.file-is (walk-skip c.loop-at.invariant c.loop-at-test.true _ number _ c.is_among.ensures
          c.if-is_among.false _ c.is_among-in-loop-at.ensures w.if-is_among-2.false)
    ]

pub returns : goal.returns
returns c = walk_none c.loop-at.invariant c.loop-at-test.false
