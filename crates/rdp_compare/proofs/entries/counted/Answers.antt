use Rattle.std.proofs.Common.{sym, refl, arith}
use Rattle.std.proofs.lemmas.Result.{err_from_is_err_and}
use Rattle.rdp_words.proofs.GroundLaws.{refused-number}
use Rattle.rdp_compare.proofs.GroundLaws.{not-decoded, first-sound, second-sound, no_room, enough}
use Rattle.rdp_compare.proofs.PairLaws.{counting-first, counting-next, count-few, all-counted}
use Rattle.rdp_compare.proofs.entries.counted.Goals as goal

pub returns-in_err-of_both : goal.returns-in_err-of_both
returns-in_err-of_both c =
    let p = err_from_is_err_and c.from_residual.result c.from_residual.ensures.1 in
    let e = c.in_err-of_both.field-0.0 in
    rw (p.1, p.2) (sym (not-decoded c.args.first.now c.args.second.now c.args.room c.in_err-of_both.ensures (refused-number e.ground)))

pub new-pairs-requires : goal.new-pairs-requires
new-pairs-requires c =
    let first = c.args.first.now in
    let second = c.args.second.now in
    (first-sound first second c.in_ok-of_both.ensures refl, second-sound first second c.in_ok-of_both.ensures refl)

pub loop-pair-init : goal.loop-pair-init
loop-pair-init c =
    let first = c.args.first.now in
    let second = c.args.second.now in
    counting-first first second c.new-pairs.result (first-sound first second c.in_ok-of_both.ensures refl) c.new-pairs.ensures

pub overflow_add-count : goal.overflow_add-count
overflow_add-count c = omega (arith, count-few (counting-next c.loop-pair.invariant c.in-Some.ensures.steps c.entry_len-count.ensures))

pub loop-pair-preserved : goal.loop-pair-preserved
loop-pair-preserved c = counting-next c.loop-pair.invariant c.in-Some.ensures.steps c.entry_len-count.ensures

pub overflow_cast-place : goal.overflow_cast-place
overflow_cast-place c = omega (arith, count-few c.loop-pair.invariant)

pub returns-then-room-count : goal.returns-then-room-count
returns-then-room-count c =
    sym (no_room c.args.first.now c.args.second.now c.args.room c.in_ok-of_both.ensures refl (all-counted c.loop-pair.invariant c.in_default.ensures.steps.1) c.if-room-count.true)

pub returns : goal.returns
returns c =
    let first = c.args.first.now in
    let second = c.args.second.now in
    let is = c.in_ok-of_both.ensures in
    let ends = c.in_default.ensures.steps in
    let all = all-counted c.loop-pair.invariant ends.1 in
    record {
      one = first-sound first second is refl;
      two = second-sound first second is refl;
      needed = all;
      fits = c.if-room-count.false;
      answers = sym (enough first second c.args.room is refl all c.if-room-count.false);
      over = rw ends.0 ends.1;
      rest = rw ends.0 c.loop-pair.invariant.rest;
    }
