-- The repair's answer is the first of its refusals in their order, and 0 where none holds. Assumes nothing.
use Rattle.std.proofs.Common.{cond, List, inl, inr, ⊎_elim, ◌≡◌, refl, ap, subst, ◌∙◌, ℕ, ◌*◌, ◌/◌, suc-ne-zero, ne_eqb, eqb-true, lt-ltb, ltb-true, eqb, ltb, length}
use borrow.Author.Tests.{eqb-false}
use Rattle.rdp_words.specs.Grounds.{Answer}
use Rattle.rdp_command.specs.Decode.{answer}
use Rattle.rdp_repair.specs.Repair.{Repaired}
use Rattle.rdp_words.proofs.Tests.{by-test, true_of}
use Rattle.rdp_check.specs.Commands.{commands_of}
use Rattle.rdp_check.specs.Order.{Ground, Among}
use Rattle.rdp_check.specs.Check.{repair_refusals, Judgement, outcome_within}
use Rattle.rdp_check.specs.Refusals.{grounds_of, FirstRefusal}
use Rattle.rdp_repair.specs.Repair.{Repairable, repair_answer, repair_of, RepairHolds, of_list, little_work, little_out, buffer_grounds, repair_grounds, FirstRepairRefusal}
use Rattle.rdp_check.proofs.OrderLaws.{found, among-left, among-right, among-parts, answered, then-refused, then-accepted}
use Rattle.rdp_check.proofs.FirstLaws.{own-numbered, to-order, from-order, no_zero, judge-first}

-- ---- by the judgement of the list

abbrev pub judged : List ℕ → Judgement
judged list = outcome_within 2048 repair_refusals list

judged-first : (list : List ℕ) → FirstRefusal 2048 repair_refusals list (judged list).number (judged list).place
judged-first list = judge-first repair_refusals list 2048 own-numbered

pub repairable-judged : (list : List ℕ) → Repairable list → (judged list).number ≡ 0
repairable-judged list free =
    by-test (eqb (judged list).number 0) (eqb-true _ _) (λ f. absurd (free _ _ ((judged-first list).refused (eqb-false _ _ f))))

-- the repair of a list, where the least repair has so many bytes and cycles
module _ (list : List ℕ) (bytes cycles work out : ℕ) where
  abbrev of_commands : List (Ground Answer)
  of_commands = grounds_of 2048 repair_refusals list

  abbrev of_room : List (Ground Answer)
  of_room = buffer_grounds list bytes work out

  abbrev needed : Answer
  needed = answer 0 (bytes / 8)

  to_both : (n p : ℕ) → RepairHolds list bytes work out n p → Among (answer n p) (repair_grounds list bytes work out)
  to_both n p (of_list m q h) = among-left (answer m q) of_commands of_room (to-order repair_refusals list 2048 m q h)
  to_both n p (little_work h) = among-right (answer 13 _) of_commands of_room (inl (rw (lt-ltb _ _ h) tt, refl))
  to_both n p (little_out h) = among-right (answer 14 _) of_commands of_room (inr (inl (rw (lt-ltb _ _ h) tt, refl)))

  at_place : (n p m q : ℕ) → answer m q ≡ answer n p → RepairHolds list bytes work out m q → RepairHolds list bytes work out n p
  at_place n p m q e h = subst (λ (a : Answer). RepairHolds list bytes work out a.number a.place) e h

  from-room : (n p : ℕ) → Among (answer n p) of_room → RepairHolds list bytes work out n p
  from-room n p (inl h) = at_place n p _ _ h.1 (little_work (ltb-true _ _ (true_of _ h.0)))
  from-room n p (inr (inl h)) = at_place n p _ _ h.1 (little_out (ltb-true _ _ (true_of _ h.0)))
  from-room n p (inr (inr m)) = absurd m

  from-both : (n p : ℕ) → Among (answer n p) (repair_grounds list bytes work out) → RepairHolds list bytes work out n p
  from-both n p m = ⊎_elim (λ a. of_list n p (from-order repair_refusals list 2048 n p a)) (from-room n p) (among-parts (answer n p) of_commands of_room m)

  not-zero : (n p : ℕ) → RepairHolds list bytes work out n p → n ≡ 0 → ⊥
  not-zero n p (of_list m q h) z = no_zero repair_refusals list 2048 own-numbered m q h z
  not-zero n p (little_work h) z = suc-ne-zero 12 z
  not-zero n p (little_out h) z = suc-ne-zero 13 z

  -- the repair's answer is 0 exactly where none of 1 to 6, 19, 13 and 14 holds, and is else the first in their order, at its place
  pub repair-first : FirstRepairRefusal list bytes work out (repair_of list bytes cycles work out)
  unfolding repair_of
  repair-first =
      answered (RepairHolds list bytes work out) (repair_grounds list bytes work out) (bytes / 8) to_both from-both
      (λ p h. not-zero 0 p h refl) _ (found (repair_grounds list bytes work out) needed)

  abbrev with_cycles : Answer → Repaired
  with_cycles a = repair_answer a.number a.place (cond (eqb a.number 0) cycles 0)

  pub repair-refused : ((judged list).number ≡ 0 → ⊥) → repair_of list bytes cycles work out ≡ repair_answer (judged list).number (judged list).place 0
  unfolding repair_of
  repair-refused ne = ap with_cycles (then-refused (judged-first list) of_room needed ne) ∙ rw (ne_eqb _ _ ne)

  -- a list that no refusal of 1 to 6 and 19 holds for
  unfoldable pub roomed : Repaired
  roomed =
      cond (ltb work (16 * length (commands_of list))) (repair_answer 13 (length (commands_of list)) 0)
      (cond (ltb out bytes) (repair_answer 14 (bytes / 8) 0) (repair_answer 0 (bytes / 8) cycles))

  pub repair-roomed : (judged list).number ≡ 0 → repair_of list bytes cycles work out ≡ roomed
  unfolding repair_of roomed
  repair-roomed e =
      ap with_cycles (then-accepted (judged-first list) of_room needed e) ∙
      by-test (ltb work (16 * length (commands_of list))) (λ t. rw t)
      (λ f. by-test (ltb out bytes) (λ t. rw (f, t)) (λ g. rw (f, g)))
