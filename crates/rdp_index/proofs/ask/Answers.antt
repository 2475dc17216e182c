-- `rdp_index::ask` meets its contract: the refusals in their order, then the reading from the entry. Assumes nothing.
use Rattle.std.proofs.Common.{refl, ◌∙◌}
use Rattle.std.proofs.lemmas.Result.{err_from_is_err_and}
use Rattle.rdp_index.proofs.ReadLaws.{ask-none, ask-high, ask-read}
use Rattle.rdp_index.proofs.SizeLaws.{size_none, size-ask}
use Rattle.rdp_words.proofs.GroundLaws.{refused-number}
use Rattle.rdp_index.proofs.ask.Goals as goal

pub returns-in_err-size_answer : goal.returns-in_err-size_answer
returns-in_err-size_answer c =
    let a = c.args in
    let p = err_from_is_err_and c.from_residual.result c.from_residual.ensures.1 in
    rw (p.1, p.2) (size-ask a.list.now _ c.in_err-size_answer.ensures (refused-number _) a.entries.now a.place)

pub returns-in_default : goal.returns-in_default
returns-in_default c =
    let a = c.args in
    let s = size_none a.list.now _ c.in_ok-size_answer.ensures refl in
    ask-none a.list.now a.entries.now a.place s.short s.words c.in_default.ensures

pub returns-then-hazards-ge16 : goal.returns-then-hazards-ge16
returns-then-hazards-ge16 c =
    let a = c.args in
    let s = size_none a.list.now _ c.in_ok-size_answer.ensures refl in
    ask-high a.list.now a.entries.now a.place s.short s.words _ c.in-Some.ensures.0 c.if-hazards-ge16.true

pub returns : goal.returns
returns c =
    let a = c.args in
    let s = size_none a.list.now _ c.in_ok-size_answer.ensures refl in
    c.read_on.ensures ∙
    ask-read a.list.now a.entries.now a.place s.short s.words _ c.in-Some.ensures.0 c.if-hazards-ge16.false
