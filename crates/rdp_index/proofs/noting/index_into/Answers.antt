-- `rdp_index::noting::index_into` meets its contract: 1 and 2 of the list, the others by the loop. Assumes nothing.
use Rattle.std.proofs.lemmas.Result.{err_from_is_err_and}
use Rattle.rdp_index.proofs.SizeLaws.{size-index}
use Rattle.rdp_words.proofs.GroundLaws.{refused-number}
use Rattle.rdp_index.proofs.noting.index_into.Goals as goal

pub returns-in_err-size_answer : goal.returns-in_err-size_answer
returns-in_err-size_answer c =
    let p = err_from_is_err_and c.from_residual.result c.from_residual.ensures.1 in
    rw (p.1, p.2) (size-index _ _ c.in_err-size_answer.ensures (refused-number _) _)
