-- `rdp_draw::refusals::first_refusal` meets its contract. The loop's invariant: the first refusal of the acts that are due is that of the list.
-- Assumes nothing.
use Rattle.std.proofs.Common.{refl, ap, sym, ◌∙◌, arith}
use Rattle.rdp_words.specs.Grounds.{number_unless}
use Rattle.rdp_words.proofs.GroundLaws.{refused-number}
use Rattle.rdp_draw.proofs.DrawLaws.{going-first, inside, before-end, falls, tests-none, tests-refused, tests-again}
use Rattle.rdp_draw.proofs.refusals.first_refusal.Goals as goal

pub loop-reached-init : goal.loop-reached-init
loop-reached-init c = let p = c.requires in going-first _ _ _ p.0 p.1.1 refl

pub refusal_at-requires : goal.refusal_at-requires
refusal_at-requires c = omega (arith, before-end c.loop-reached.invariant c.in-Some.ensures, c.requires.1.0)

pub overflow_cast-result : goal.overflow_cast-result
overflow_cast-result c = omega (arith, before-end c.loop-reached.invariant c.in-Some.ensures, c.requires.1.0)

pub returns-in-Err : goal.returns-in-Err
returns-in-Err c =
    tests-refused _ _ c.loop-reached.invariant c.in-Some.ensures _ (sym (ap number_unless c.in-Err.is) ∙ c.refusal_at.ensures) (refused-number _)

pub overflow_add-next : goal.overflow_add-next
overflow_add-next c = omega (arith, c.words_of.ensures, inside c.loop-reached.invariant c.in-Some.ensures, c.requires.1.0)

pub loop-reached-smaller : goal.loop-reached-smaller
loop-reached-smaller c = falls c.loop-reached.invariant c.in-Some.ensures _ c.words_of.ensures

pub loop-reached-preserved : goal.loop-reached-preserved
loop-reached-preserved c =
    tests-again _ _ c.loop-reached.invariant c.in-Some.ensures _ c.refusal_at.ensures (ap number_unless c.in_default-refusal_at.is) _ c.words_of.ensures

pub returns : goal.returns
returns c = tests-none _ _ c.loop-reached.invariant c.next_act.new.file c.in_default.ensures
