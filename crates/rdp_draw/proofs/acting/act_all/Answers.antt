-- `rdp_draw::acting::act_all` meets its contract. The loop's invariant: what the acts that are due make of the memories is what all make of them, and none of
-- them is refused. Assumes nothing.
use Rattle.std.proofs.Common.{refl, arith, rules}
use Rattle.rdp_draw.proofs.DrawLaws.{going-first, inside, before-end, falls, does-none, does-clear, does-size, does-again}
use Rattle.rdp_draw.proofs.acting.act_all.Goals as goal

pub loop-reached-init : goal.loop-reached-init
loop-reached-init c =
    let p = c.requires in
    going-first _ _ _ p.words_value.0 p.words_value.1.1 (record { long = refl; long-texture = refl; size = p.texture_len.0; clear = p.texture_len.1; same = refl })

pub act-requires : goal.act-requires
act-requires c =
    let i = c.loop-reached.invariant in
    let h = c.in-Some.ensures in
    record {
      place_bound = (omega (arith, before-end i h, c.requires.words_value.1.0), does-size i h);
      number_value = does-clear i h;
    }

pub overflow_add-next : goal.overflow_add-next
overflow_add-next c = omega (arith, c.words_of.ensures, inside c.loop-reached.invariant c.in-Some.ensures, c.requires.words_value.1.0)

pub loop-reached-smaller : goal.loop-reached-smaller
loop-reached-smaller c = falls c.loop-reached.invariant c.in-Some.ensures _ c.words_of.ensures

pub loop-reached-preserved : goal.loop-reached-preserved
loop-reached-preserved c =
    does-again c.loop-reached.invariant c.in-Some.ensures _ c.act.ensures (search rules) (search rules) _ c.words_of.ensures

pub returns : goal.returns
returns c = does-none c.loop-reached.invariant c.next_act.new.file c.in_default.ensures
