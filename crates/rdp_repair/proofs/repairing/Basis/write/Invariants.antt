-- `rdp_repair::repairing::Basis::write` meets its contract: what is written and what is due make the whole. Assumes nothing.
use Rattle.rdp_repair.proofs.PassLaws.{Writing}
use Rattle.rdp_repair.proofs.repairing.Basis.write.Given as goal

abbrev pub invariant-loop-i : goal.invariant-loop-i
invariant-loop-i l =
    let left = l.i-iterator in
    Writing l.self.afresh l.self.list.now left.iter.0.now l.work l.initial.out l.out l.hazards left.count l.to
