-- `rdp_index::asking::last_before` meets its contract: of the entries before i the last that counts is that of all. Assumes nothing.
use Rattle.std.proofs.Common.{◌≡◌, suc, ◌-◌, sym, ◌∙◌, arith}
use Rattle.rdp_index.proofs.ReadLaws.{last_none, last-here, last-before}
use Rattle.rdp_index.proofs.asking.last_before.Goals as goal

pub returns-then-entries-i : goal.returns-then-entries-i
returns-then-entries-i c =
    let a = c.args in
    let one : c.loop-i.i ≡ suc (c.loop-i.i - 1) = omega arith in
    (sym c.loop-i.invariant ∙ last-here a.place a.entries.now _ _ one c.if-entries-i.true ∙ one, omega arith)

pub loop-i-preserved : goal.loop-i-preserved
loop-i-preserved c =
    let a = c.args in
    sym (last-before a.place a.entries.now c.loop-i.i (c.loop-i.i - 1) (omega arith) c.if-entries-i.false) ∙ c.loop-i.invariant

pub returns : goal.returns
returns c = sym c.loop-i.invariant ∙ last_none c.args.place c.args.entries.now c.loop-i.i c.loop-i-test.false
