-- `rdp_index::asking::read_on` meets its contract. The loop's invariant: reading on from here gives the answer. Assumes nothing.
use Rattle.std.proofs.Common.{◌∙◌}
use Rattle.rdp_words.proofs.PlaceLaws.{number_small}
use Rattle.rdp_hazards.proofs.HazardLaws.{next-read}
use Rattle.rdp_index.proofs.ReadLaws.{first, ended, outside, cut, found, again}
use Rattle.rdp_index.proofs.asking.read_on.Goals as goal

pub loop-read-init : goal.loop-read-init
loop-read-init c =
    let p = c.requires in
    first _ _ _ _ p.0 p.1 p.2

pub returns-then-asked-at : goal.returns-then-asked-at
returns-then-asked-at c = outside c.loop-read.invariant c.if-asked-at.true

pub returns-then-words-at : goal.returns-then-words-at
returns-then-words-at c =
    cut c.loop-read.invariant c.loop-read-test.true c.if-asked-at.false _ c.number_at-number.ensures _
    c.words_of-count.ensures c.if-words-at.true

pub returns-then-at-asked : goal.returns-then-at-asked
returns-then-at-asked c =
    found c.loop-read.invariant c.loop-read-test.true c.if-asked-at.false _ c.number_at-number.ensures _
    c.words_of-count.ensures c.if-words-at.false c.if-at-asked.true

pub loop-read-preserved : goal.loop-read-preserved
loop-read-preserved c =
    let next = c.next-hazards.ensures ∙ next-read _ c.args.table.now.agrees _ _ c.loop-read.invariant.low (rw c.number_at-number.ensures (number_small _)) in
    again c.loop-read.invariant c.loop-read-test.true c.if-asked-at.false _ c.number_at-number.ensures _
    c.words_of-count.ensures c.if-words-at.false c.if-at-asked.false _ next

pub returns : goal.returns
returns c = ended c.loop-read.invariant c.loop-read-test.false
