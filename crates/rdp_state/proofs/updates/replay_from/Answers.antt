-- `rdp_state::updates::replay_from` meets its contract: the words after the commands that are left are those after the list. Assumes nothing.
use Rattle.std.proofs.Common.{◌≡◌, ℕ, ◌+◌, ◌%◌, ◌^◌, ap, ◌∙◌, arith}
use Rattle.rdp_words.specs.Words.{number_in, word_at}
use Rattle.rdp_state.specs.RegisterWords.{words_after}
use Rattle.rdp_state.proofs.ReplayLaws.{first, ended, next-small, cut-short, at-next}
use Rattle.rdp_state.proofs.updates.replay_from.Goals.{After-words_of}
use Rattle.rdp_state.proofs.updates.replay_from.Goals as goal

pub loop-at-init : goal.loop-at-init
loop-at-init c = first c.args.list.now c.args.end c.args.file c.args.before

number-is : (c : After-words_of) → c.head_at-number.result.number ≡ number_in (word_at c.args.list.now c.loop-at.at)
number-is c = ap (λ h. h.number) c.head_at-number.ensures

pub overflow_add-next : goal.overflow_add-next
overflow_add-next c =
    let small = next-small c.loop-at.invariant _ (number-is c) in
    let words = c.words_of.ensures in
    search (arith, words, small)

pub returns-then-count-next : goal.returns-then-count-next
returns-then-count-next c =
    cut-short c.loop-at.invariant _ (number-is (goal.at.returns-then-count-next c).After-words_of) (rw (← c.words_of.ensures) c.if-count-next.true)

pub loop-at-smaller : goal.loop-at-smaller
loop-at-smaller c =
    let small = next-small c.loop-at.invariant _ (number-is (goal.at.loop-at-smaller c).After-words_of) in
    omega (arith, small, c.words_of.ensures, c.if-count-next.false)

pub loop-at-preserved : goal.loop-at-preserved
loop-at-preserved c =
    rw (c.words_of.ensures)
    (at-next c.loop-at.invariant _ (number-is (goal.at.loop-at-preserved c).After-words_of)
    (rw (← c.words_of.ensures) (omega (arith, c.if-count-next.false))) c.loop-at-test.true _
    (c.store.ensures ∙ ap (words_after c.loop-at.replay.words (c.head_at-number.result.number % 64)) c.word_at.ensures) _
    (ap (λ (n : ℕ). (c.loop-at.replay.waited + n) % 2 ^ 32) c.wait_of.ensures))

pub returns : goal.returns
returns c = ended c.loop-at.invariant (omega (arith, c.loop-at-test.false))
