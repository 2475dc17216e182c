-- `rdp_repair::repairing::Basis::write` meets its contract: what is written and what is due make the whole. Assumes nothing.
use Rattle.std.proofs.Common.{◌≡◌, ◌+◌, ◌*◌, ◌/◌, get_or, sym}
use Rattle.rdp_hazards.specs.Hazards.{code_in}
use Rattle.rdp_repair.proofs.PassLaws.{Writing, writing-first, writing-next, all-written, choice-small, turn-fits}
use Rattle.rdp_repair.proofs.repairing.Basis.write.Goals.{After-kept}
use Rattle.rdp_repair.proofs.repairing.Basis.write.Goals as goal

-- the loop's invariant at a turn, by the command's index
here : (c : After-kept) → Writing c.args.self.afresh c.args.self.list.now c.loop-i.i-iterator.iter.0.now c.args.work.now c.args.out.now c.loop-i.out c.loop-i.hazards c.in-Some.i c.loop-i.to
here c = rw (sym c.in-Some.ensures.steps.1) at c.loop-i.invariant

-- the option of the sync
same : (c : After-kept) → code_in c.sync_in-sync.result ≡ get_or c.args.work.now (16 * c.in-Some.i + c.loop-i.hazards) 0 / 16
same c = c.sync_in-sync.ensures (choice-small (here c) _ _ c.in-Some.ensures.steps.0)

pub loop-i-init : goal.loop-i-init
loop-i-init c =
    let p = c.requires in
    rw (c.into_iter-i-iterator.ensures.into_iter_gives, c.enumerate-i-items.ensures.source, c.enumerate-i-items.ensures.count)
    (writing-first _ _ _ _ p.0 p.1 p.2)

pub write_command-to-requires : goal.write_command-to-requires
write_command-to-requires c =
    let k = (goal.at.write_command-to-requires c).After-kept in
    turn-fits (here k) _ _ c.in-Some.ensures.steps.0 _ (same k) _ c.kept.ensures

pub loop-i-preserved : goal.loop-i-preserved
loop-i-preserved c =
    let k = (goal.at.loop-i-preserved c).After-kept in
    let s = c.in-Some.ensures.steps in
    rw (s.2, sym s.1) (writing-next (here k) _ _ s.0 _ (same k) _ c.kept.ensures _ _ c.write_command-to.ensures)

pub returns : goal.returns
returns c = all-written c.loop-i.invariant c.in-None.ensures.steps.0.0
