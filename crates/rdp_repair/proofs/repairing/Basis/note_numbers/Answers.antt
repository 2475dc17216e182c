-- `rdp_repair::repairing::Basis::note_numbers` meets its contract: the numbers noted and those of the commands left are the numbers of all, and so are the words
-- that are kept. Assumes nothing.
use Rattle.std.proofs.Common.{ap, ◌∙◌, arith}
use Rattle.rdp_repair.specs.Work.{noted_number, kept_words}
use Rattle.rdp_repair.proofs.PassLaws.{noting-first, noting-next, kept-few}
use Rattle.rdp_repair.proofs.repairing.Basis.note_numbers.Goals as goal

pub loop-command-init : goal.loop-command-init
loop-command-init c =
    rw c.into_iter-command-iterator.ensures.into_iter_gives (noting-first c.args.self.afresh c.args.self.list.now c.args.work.now c.requires)

pub overflow_add-words : goal.overflow_add-words
overflow_add-words c =
    let kept = c.kept_words-words.ensures ∙ ap (kept_words c.args.self.afresh) c.number_at-number.ensures in
    omega (arith, kept, kept-few c.loop-command.invariant _ _ c.in-Some.ensures.steps)

pub loop-command-preserved : goal.loop-command-preserved
loop-command-preserved c =
    noting-next c.loop-command.invariant _ _ c.in-Some.ensures.steps
    _ (c.noted_number.ensures ∙ ap (noted_number c.args.self.afresh) c.number_at-number.ensures)
    _ (c.kept_words-words.ensures ∙ ap (kept_words c.args.self.afresh) c.number_at-number.ensures)
