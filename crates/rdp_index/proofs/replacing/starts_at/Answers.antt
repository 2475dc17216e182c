-- `rdp_index::replacing::starts_at` meets its contract. The loop's invariant: whether a command left starts at the place is whether one does. Assumes nothing.
use Rattle.std.proofs.Common.{ap, ◌∙◌, arith}
use Rattle.rdp_words.specs.Kinds.{words_of}
use Rattle.rdp_index.proofs.StartLaws.{ended, few, found, again}
use Rattle.rdp_index.proofs.replacing.starts_at.Goals as goal

pub returns-then-place-at : goal.returns-then-place-at
returns-then-place-at c = found c.loop-command.invariant _ _ c.in-Some.ensures.steps c.if-place-at.true

pub overflow_add-at : goal.overflow_add-at
overflow_add-at c =
    omega (arith, few c.loop-command.invariant _ _ c.in-Some.ensures.steps _ (c.words_of-at.ensures ∙ ap words_of c.number_at.ensures))

pub loop-command-preserved : goal.loop-command-preserved
loop-command-preserved c =
    again c.loop-command.invariant _ _ c.in-Some.ensures.steps _ (c.words_of-at.ensures ∙ ap words_of c.number_at.ensures) c.if-place-at.false

pub returns : goal.returns
returns c = ended c.loop-command.invariant c.in-None.ensures.steps.0
