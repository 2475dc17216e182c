use Rattle.std.proofs.Common.{refl}
use Rattle.std.proofs.lemmas.Result.{err_from_is_err_and}
use Rattle.f3dex2.proofs.StepLaws.{unread, stays, reads}
use Rattle.f3dex2.proofs.Walker.read_command.Goals as goal

pub returns-in_err-read_refusal-clause-reads : goal.returns-in_err-read_refusal-clause-reads
returns-in_err-read_refusal-clause-reads c =
    let p = err_from_is_err_and c.from_residual.result c.from_residual.ensures.1 in
    rw (p.1, p.2) (unread c.args.self.now c.args.at c.args.depth c.in_err-read_refusal.ensures)

pub returns-in_err-action-clause-reads : goal.returns-in_err-action-clause-reads
returns-in_err-action-clause-reads c =
    let p = err_from_is_err_and c.from_residual-in_err-action.result c.from_residual-in_err-action.ensures.1 in
    rw (p.1, p.2)
    (stays c.args.self.now c.args.at c.args.depth c.in_ok-read_refusal.ensures c.word_at-w.ensures c.setting_after-setting.ensures c.in_err-action.ensures)

pub returns-clause-reads : goal.returns-clause-reads
returns-clause-reads c =
    reads c.args.self.now c.args.at c.args.depth c.in_ok-read_refusal.ensures c.word_at-w.ensures c.setting_after-setting.ensures c.in_ok-action.ensures _ refl refl
    refl refl refl
