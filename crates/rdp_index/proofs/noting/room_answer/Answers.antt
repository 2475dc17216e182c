-- `rdp_index::noting::room_answer` meets its contract, by the index and the room. Assumes nothing.
use Rattle.std.proofs.Common.{sym, ap, ◌∙◌}
use Rattle.std.proofs.lemmas.Result.{err_from_is_err_and}
use Rattle.rdp_index.specs.Index.{room_answer}
use Rattle.rdp_index.proofs.NoteLaws.{room-refused}
use Rattle.rdp_words.proofs.GroundLaws.{refused-number}
use Rattle.rdp_index.proofs.noting.room_answer.Goals as goal

pub returns-in_err-found : goal.returns-in_err-found
returns-in_err-found c =
    let p = err_from_is_err_and c.from_residual.result c.from_residual.ensures.1 in
    rw (p.1, p.2) (sym (room-refused _ _ (refused-number _)) ∙ ap (room_answer c.args.room) c.in_err-found.ensures.answers)
