use Rattle.std.proofs.Common.{refl}
use Rattle.std.proofs.lemmas.Result.{err_from_is_err_and}
use Rattle.rdp_words.proofs.GroundLaws.{refused-number}
use Rattle.rdp_compare.proofs.GroundLaws.{of-first, of-second}
use Rattle.rdp_compare.proofs.grounds.of_both.Goals as goal

pub returns-in_err-first_ground : goal.returns-in_err-first_ground
returns-in_err-first_ground c =
    let p = err_from_is_err_and c.from_residual.result c.from_residual.ensures.1 in
    let e = c.in_err-first_ground.field-0.0 in
    rw (p.1, p.2) (of-first c.args.first.now c.args.second.now c.in_err-first_ground.ensures (refused-number e.ground))

pub returns : goal.returns
returns c = of-second c.args.first.now c.args.second.now c.in_ok-first_ground.ensures refl c.first_ground-2.ensures
