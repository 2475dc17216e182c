-- `rdp_command::decoding::first_command` meets its contract. Assumes nothing.
use Rattle.std.proofs.Common.{ℕ, [], ◌∷◌, ap, sym, ◌∙◌}
use Rattle.rdp_words.specs.Words.{number_in}
use Rattle.rdp_command.specs.Decode.{own_word}
use Rattle.rdp_command.proofs.AnswerLaws.{first_none, first_gives}
use Rattle.rdp_command.proofs.decoding.first_command.Goals as goal

pub returns-then-n-eq0 : goal.returns-then-n-eq0
returns-then-n-eq0 c = first_none c.args.list.now (sym c.whole_words-n.ensures.0 ∙ c.if-n-eq0.true)

pub returns : goal.returns
returns c =
    let list = c.args.list.now in
    let n = c.whole_words-n.ensures.0 in
    first_gives list (λ none. c.if-n-eq0.false (n ∙ none)) (c.number_in.ensures ∙ ap number_in c.word_at-w0.ensures)
    (λ i.
    c.word_at-w0.ensures i ∷
    (c.own_word.ensures ∙ ap (λ (k : ℕ). own_word list k 1) n) i ∷
    (c.own_word-2.ensures ∙ ap (λ (k : ℕ). own_word list k 2) n) i ∷
    (c.own_word-3.ensures ∙ ap (λ (k : ℕ). own_word list k 3) n) i ∷ [])
