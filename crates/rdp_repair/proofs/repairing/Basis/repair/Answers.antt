-- `rdp_repair::repairing::Basis::repair` meets its contract: the refusals of the list by the check's walk, those of the room and the repair by `RepairLaws`. Assumes nothing.
use Rattle.std.proofs.Common.{◌≡◌, ℕ, List, refl, sym, ap, subst, arith}
use Rattle.std.proofs.lemmas.Result.{err_from_is_err_and}
use Rattle.rdp_words.specs.Grounds.{Answer}
use Rattle.rdp_words.proofs.GroundLaws.{refused-number}
use Rattle.rdp_check.specs.Check.{Checked, repair_refusals, outcome_within}
use Rattle.rdp_repair.specs.Repair.{repair_answer}
use Rattle.rdp_repair.specs.Work.{basis_of, Repairs}
use Rattle.rdp_repair.proofs.RepairLaws.{list-short, refused, refused-work}
use Rattle.rdp_repair.proofs.repairing.Basis.repair.Goals.{In_ok-check_for_repair}
use Rattle.rdp_repair.proofs.repairing.Basis.repair.Goals as goal

-- none of refusals 1 to 6 and 19 holds
clean : (c : In_ok-check_for_repair) → (outcome_within 2048 repair_refusals c.args.self.list.now).number ≡ 0
clean c = sym (ap (λ (x : Checked). x.number) c.in_ok-check_for_repair.ensures)

pub returns-in_err-check_for_repair : goal.returns-in_err-check_for_repair
returns-in_err-check_for_repair c =
    let p = err_from_is_err_and c.from_residual.result c.from_residual.ensures.1 in
    rw (p.1, p.2) (refused _ _ _ _ _ c.in_err-check_for_repair.ensures (refused-number _))

pub test_room-requires : goal.test_room-requires
test_room-requires c = list-short c.args.self.list.now (clean (goal.at.test_room-requires c).In_ok-check_for_repair)

pub returns-in_err-test_room : goal.returns-in_err-test_room
returns-in_err-test_room c =
    let p = err_from_is_err_and c.from_residual-in_err-test_room.result c.from_residual-in_err-test_room.ensures.1 in
    let e = c.in_err-test_room.ensures in
    let list : List ℕ = c.args.self.list.now in
    let work : List ℕ = c.args.work.now in
    let out : List ℕ = c.args.out.now in
    rw (p.1, p.2)
    (subst (λ (a : Answer). Repairs (basis_of c.args.self.afresh list) list work out (repair_answer a.number a.place 0) work out) (sym e.1)
    (refused-work _ list work out (clean (goal.at.returns-in_err-test_room c).In_ok-check_for_repair) _ refl (omega (arith, e.0))))
