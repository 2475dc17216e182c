-- Which answers the repairs give, and how large their parts are. Assumes nothing.
use Rattle.std.proofs.Common.{ℕ, ◌*◌, ◌/◌, ◌≤◌, Bool, true, false, List, [], ◌∷◌, ◌≡◌, sym, subst, arith, eqb-true, T, eqb, ltb, length}
use borrow.Author.Tests.{eqb-false}
use Rattle.std.proofs.Math.ListN.{length-map}
use Rattle.rdp_words.specs.Kinds.{among}
use Rattle.rdp_words.specs.Lengths.{first_number}
use Rattle.rdp_words.proofs.Tests.{by-test}
use Rattle.rdp_check.specs.Commands.{commands_of}
use Rattle.rdp_check.specs.Check.{State, own_refusals, repair_refusals}
use Rattle.rdp_check.proofs.OrderLaws.{all_give}
use Rattle.rdp_check.proofs.FirstLaws.{own-numbered, outcome-gives}
use Rattle.rdp_check.proofs.BoundLaws.{place-most}
use Rattle.rdp_repair.specs.Best.{command_numbers, repaired_bytes, least_cycles}
use Rattle.rdp_repair.specs.Repair.{RepairIs}
use Rattle.rdp_repair.specs.Afresh.{AfreshIs}
use Rattle.rdp_repair.specs.Work.{basis_of, answered_by}
use Rattle.rdp_repair.specs.Repair.{Repaired}
use Rattle.rdp_repair.proofs.BackLaws.{best-most}
use Rattle.rdp_repair.proofs.RoomLaws.{judged, roomed, repair-refused, repair-roomed}
use Rattle.rdp_repair.proofs.RepairedLaws.{sound, count_most, repaired-most}
use Rattle.rdp_repair.proofs.DropLaws.{sound-basis}
use Rattle.rdp_repair.proofs.RepairLaws.{commands-few, repair-computes, afresh-computes}

-- the numbers of the answers of either repair
abbrev pub repair_numbers : List ℕ
repair_numbers = 0 ∷ 1 ∷ 2 ∷ 3 ∷ 4 ∷ 5 ∷ 6 ∷ 13 ∷ 14 ∷ 19 ∷ []

own-known : (s : State) (c : List ℕ) → T (all_give (λ n. among n repair_numbers) (repair_refusals s c))
unfolding own_refusals
own-known s c = tt

pub record Bounds (r : Repaired) : Type 0 where
  pub number : T (among r.number repair_numbers)
  pub place : r.place ≤ 4096
  pub cycles : r.cycles ≤ 102400

room-bounds :
    (afresh : Bool) (list : List ℕ) (work out : ℕ) → (judged list).number ≡ 0 →
    Bounds (roomed list (length (repaired_bytes (basis_of afresh list))) (least_cycles (basis_of afresh list)) work out)
unfolding roomed
room-bounds afresh list work out e =
    let basis : List ℕ = basis_of afresh list in
    let s = sound-basis afresh list (sound repair_refusals own-numbered list e) in
    let few : length (commands_of list) ≤ 2048 = commands-few list e in
    let long : length (repaired_bytes basis) / 8 ≤ 4096 = omega (arith, repaired-most basis s.none, s.short) in
    let least : least_cycles basis ≤ 102400 =
    omega (arith, best-most (command_numbers (commands_of basis)) 0, length-map (commands_of basis) first_number, count_most basis s.none, s.short) in
    by-test (ltb work (16 * length (commands_of list))) (λ t. rw t (record { number = tt; place = omega arith; cycles = omega arith }))
    (λ f.
    by-test (ltb out (length (repaired_bytes basis)))
    (λ t. rw (f, t) (record { number = tt; place = long; cycles = omega arith }))
    (λ g. rw (f, g) (record { number = tt; place = long; cycles = least })))

answer-bounds : (afresh : Bool) (list work out : List ℕ) → Bounds (answered_by (basis_of afresh list) list work out)
answer-bounds afresh list work out =
    by-test (eqb (judged list).number 0)
    (λ t.
    let e = eqb-true _ _ t in
    subst Bounds (sym (repair-roomed list _ _ (length work) (length out) e)) (room-bounds afresh list (length work) (length out) e))
    (λ f.
    subst Bounds (sym (repair-refused list _ _ (length work) (length out) (eqb-false _ _ f)))
    (record {
      number = outcome-gives (λ n. among n repair_numbers) repair_refusals own-known tt tt tt tt 2048 list;
      place = omega (arith, place-most 2048 repair_refusals list);
      cycles = omega arith;
    }))

pub repair-bounds : {list work out work' out' : List ℕ} {r : Repaired} → RepairIs list work out r work' out' → Bounds r
repair-bounds {list} {work} {out} is = subst Bounds (sym (repair-computes is).answer) (answer-bounds false list work out)

pub afresh-bounds : {list work out work' out' : List ℕ} {r : Repaired} → AfreshIs list work out r work' out' → Bounds r
afresh-bounds {list} {work} {out} is = subst Bounds (sym (afresh-computes is).answer) (answer-bounds true list work out)
