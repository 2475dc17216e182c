-- `rdp_index::replacing::replacement` meets its contract: the refusals are tested in their order. Assumes nothing.
use Rattle.std.proofs.Common.{not, refl, ap, ◌∙◌}
use Rattle.std.proofs.lemmas.Result.{err_from_is_err_and}
use Rattle.rdp_words.specs.Kinds.{words_of}
use Rattle.rdp_index.proofs.ReplaceLaws.{refuse-built, refuse-asked, refuse-start, refuse-cut, refuse-length, fitting}
use Rattle.rdp_words.proofs.GroundLaws.{refused-number}
use Rattle.rdp_index.proofs.replacing.replacement.Goals as goal

pub returns-in_err-room_answer : goal.returns-in_err-room_answer
returns-in_err-room_answer c =
    let a = c.args in
    let p = err_from_is_err_and c.from_residual.result c.from_residual.ensures.1 in
    rw (p.1, p.2) (refuse-built a.list.now a.entries.now a.place a.new.now _ c.in_err-room_answer.ensures (refused-number _))

pub returns-in_err-ask : goal.returns-in_err-ask
returns-in_err-ask c =
    let a = c.args in
    let p = err_from_is_err_and c.from_residual-in_err-ask.result c.from_residual-in_err-ask.ensures.1 in
    rw (p.1, p.2)
    (refuse-asked a.list.now a.entries.now a.place a.new.now _ c.in_ok-room_answer.ensures refl _ c.in_err-ask.ensures (refused-number _))

pub returns-then-not-starts_at : goal.returns-then-not-starts_at
returns-then-not-starts_at c =
    let a = c.args in
    refuse-start a.list.now a.entries.now a.place a.new.now _ c.in_ok-room_answer.ensures refl _ c.in_ok-ask.ensures refl _
    c.starts_at.ensures (ap not c.if-not-starts_at.true)

pub returns-then-words-eq0 : goal.returns-then-words-eq0
returns-then-words-eq0 c =
    let a = c.args in
    refuse-cut a.list.now a.entries.now a.place a.new.now _ c.in_ok-room_answer.ensures refl _ c.in_ok-ask.ensures refl _
    c.starts_at.ensures (ap not c.if-not-starts_at.false) _ c.whole_words-words.ensures.0 c.if-words-eq0.true

pub returns-then-words-old : goal.returns-then-words-old
returns-then-words-old c =
    let a = c.args in
    refuse-length a.list.now a.entries.now a.place a.new.now _ c.in_ok-room_answer.ensures refl _ c.in_ok-ask.ensures refl _
    c.starts_at.ensures (ap not c.if-not-starts_at.false) _ c.whole_words-words.ensures.0 c.if-words-eq0.false _
    (c.words_of-old.ensures ∙ ap words_of c.number_at.ensures) c.if-words-old.true

pub returns : goal.returns
returns c =
    let a = c.args in
    fitting a.list.now a.entries.now a.place a.new.now _ c.in_ok-room_answer.ensures refl _ c.in_ok-ask.ensures refl _
    c.starts_at.ensures (ap not c.if-not-starts_at.false) _ c.whole_words-words.ensures.0 c.if-words-eq0.false _
    (c.words_of-old.ensures ∙ ap words_of c.number_at.ensures) c.if-words-old.false
