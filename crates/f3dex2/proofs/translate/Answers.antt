-- `f3dex2::translate` meets its contract: the first walk counts, and the second writes where there is room for all.
use Rattle.std.proofs.Common.{arith, length}
use Rattle.std.proofs.lemmas.Result.{err_from_is_err_and}
use Rattle.f3dex2.proofs.TranslateLaws.{refused-answer, refused-out, short-answer, short-out, full-answer, full-out}
use Rattle.f3dex2.proofs.translate.Goals as goal

pub returns-in_err-counted-clause-answer : goal.returns-in_err-counted-clause-answer
returns-in_err-counted-clause-answer c =
    let p = err_from_is_err_and c.from_residual.result c.from_residual.ensures.1 in
    rw (p.1, p.2) (refused-answer c.in_err-counted.ensures.answer (length c.args.out.now))

pub returns-in_err-counted-clause-output : goal.returns-in_err-counted-clause-output
returns-in_err-counted-clause-output c = refused-out c.in_err-counted.ensures.answer c.args.out.now

pub returns-then-out-needed-clause-answer : goal.returns-then-out-needed-clause-answer
returns-then-out-needed-clause-answer c = short-answer c.in_ok-counted.ensures.answer c.args.out.now (omega (arith, c.if-out-needed.true))

pub returns-then-out-needed-clause-output : goal.returns-then-out-needed-clause-output
returns-then-out-needed-clause-output c = short-out c.in_ok-counted.ensures.answer c.args.out.now (omega (arith, c.if-out-needed.true))

pub returns-clause-answer : goal.returns-clause-answer
returns-clause-answer c =
    full-answer c.in_ok-counted.ensures.answer c.args.out.now (omega (arith, c.if-out-needed.false)) c.walk-2.result c.walk-2.ensures.answer

pub returns-clause-output : goal.returns-clause-output
returns-clause-output c =
    full-out c.in_ok-counted.ensures.answer c.args.out.now (omega (arith, c.if-out-needed.false)) c.walk-2.ensures.output
