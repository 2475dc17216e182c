use Prim.Native.Nat.{zero-le}
use mathlib.Core.Path.{◌≡◌, ap, ◌∙◌}
use native.Mathlib.Omega.{arith}
use borrow.Author.Tests.{lt-ltb, le-ltb}
use Rattle.rdp_words.specs.Words.{number_in}
use Rattle.rdp_words.specs.Kinds.{words_of}
use Rattle.rdp_words.specs.Lengths.{first_number, whole_words}
use Rattle.rdp_words.proofs.whole_words.Goals.{After-words_of-n}
use Rattle.rdp_words.proofs.whole_words.Goals as goal

counted : (c : After-words_of-n) → c.words_of-n.result ≡ words_of (first_number c.args.list.now)
counted c = c.words_of-n.ensures ∙ ap words_of (c.number_in.ensures ∙ ap number_in c.word_at.ensures)

pub returns-then-list-n : goal.returns-then-list-n
unfolding whole_words
returns-then-list-n c = (rw (lt-ltb _ _ (rw (counted (goal.at.returns-then-list-n c).After-words_of-n) at c.if-list-n.true)), zero-le)

pub returns-else-list-n : goal.returns-else-list-n
unfolding whole_words
returns-else-list-n c =
    let there = (goal.at.returns-else-list-n c).After-words_of-n in
    (counted there ∙ rw (le-ltb _ _ (rw (counted there) at c.if-list-n.false)), omega arith)
