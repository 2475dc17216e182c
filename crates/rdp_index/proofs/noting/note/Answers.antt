-- `rdp_index::noting::note` meets its contract. The loop's invariant: the entries noted and those to come are the entries of the list. Assumes nothing.
use Rattle.std.proofs.Common.{◌∙◌, arith}
use Rattle.std.proofs.Math.ListN.{length-set}
use Rattle.rdp_words.proofs.PlaceLaws.{number_small}
use Rattle.rdp_hazards.proofs.HazardLaws.{next-read}
use Rattle.rdp_index.proofs.NoteLaws.{few-words, few-entries, ended, cut, fits, has_room, again, again-noted}
use Rattle.rdp_index.proofs.noting.note.Goals as goal

pub overflow_cast-made : goal.overflow_cast-made
overflow_cast-made c = omega (arith, few-words c.loop-command.invariant)

pub bounds-made-entries : goal.bounds-made-entries
bounds-made-entries c =
    let l = c.loop-command.invariant in
    omega (arith, l.long, has_room l _ _ c.in-Some.ensures.steps _ c.number_at-number.ensures _ c.words_of-count.ensures c.if-left-eq0.true)

pub bounds-made-entries-then-left-eq0 : goal.bounds-made-entries-then-left-eq0
bounds-made-entries-then-left-eq0 c =
    let l = c.loop-command.invariant in
    simp length-set
    (omega (arith, l.long, has_room l _ _ c.in-Some.ensures.steps _ c.number_at-number.ensures _ c.words_of-count.ensures c.if-left-eq0.true))

pub overflow_add-at : goal.overflow_add-at
overflow_add-at c =
    omega (arith, fits c.loop-command.invariant _ _ c.in-Some.ensures.steps _ c.number_at-number.ensures _ c.words_of-count.ensures)

pub loop-command-preserved-then-left-eq0 : goal.loop-command-preserved-then-left-eq0
loop-command-preserved-then-left-eq0 c =
    let l = c.loop-command.invariant in
    let next = c.next-hazards.ensures ∙ next-read _ c.args.table.now.agrees _ _ l.low (rw c.number_at-number.ensures (number_small _)) in
    again-noted l _ _ c.in-Some.ensures.steps _ c.number_at-number.ensures _ c.words_of-count.ensures _ next c.if-left-eq0.true

pub overflow_add-at-in-loop-command : goal.overflow_add-at-in-loop-command
overflow_add-at-in-loop-command c =
    omega (arith, fits c.loop-command.invariant _ _ c.in-Some.ensures.steps _ c.number_at-number.ensures _ c.words_of-count.ensures)

pub loop-command-preserved : goal.loop-command-preserved
loop-command-preserved c =
    let l = c.loop-command.invariant in
    let next = c.next-hazards-in-loop-command.ensures ∙ next-read _ c.args.table.now.agrees _ _ l.low (rw c.number_at-number.ensures (number_small _)) in
    again l _ _ c.in-Some.ensures.steps _ c.number_at-number.ensures _ c.words_of-count.ensures _ next c.if-left-eq0.false

pub returns-then-at-list : goal.returns-then-at-list
returns-then-at-list c = cut c.loop-command.invariant c.in-None.ensures.steps.0 c.if-at-list.true

pub overflow_cast-result-2 : goal.overflow_cast-result-2
overflow_cast-result-2 c = omega (arith, few-entries c.loop-command.invariant)

pub returns : goal.returns
returns c = ended c.loop-command.invariant c.in-None.ensures.steps.0 c.if-at-list.false
