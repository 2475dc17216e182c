-- A list of any length that has arrived and is closed is answered by the first of its refusals. Assumes nothing.
use Rattle.std.proofs.Common.{◌≡◌, refl, sym, ◌∙◌, ap, subst, false, List, [], ◌∷◌, ℕ, ◌*◌, ◌-◌, ◌/◌, ◌%◌, ◌≤◌, ◌<◌, suc-ne-zero, arith, lt-ltb, le-ltb, eq-eqb, ne_eqb, eqb-true, ltb-true, ltb-false, eqb, ltb, length, take, drop, length-take, length-drop, take-append-drop, take_all}
use borrow.Author.Tests.{eqb-false}
use mathlib.Core.Logic.{inl, inr, ⊎_elim}
use Rattle.rdp_words.proofs.Tests.{true_of, false_of, by-test}
use Rattle.rdp_words.specs.Grounds.{Answer}
use Rattle.rdp_command.specs.Decode.{answer}
use Rattle.rdp_check.specs.Order.{Ground, first_of, Among, IsFirst}
use Rattle.rdp_check.specs.Commands.{commands_of, rest_of, words_in}
use Rattle.rdp_check.specs.Check.{start, check_refusals, Judgement, judge, judge_list}
use Rattle.rdp_check.specs.Refusals.{CommandHolds, command_grounds}
use Rattle.rdp_check.proofs.JoinLaws.{parsed, commands-joined, rest-joined, length-split}
use Rattle.rdp_check.proofs.OrderLaws.{Found, found, among-left, among-right, among-parts, answered, then-refused, then-accepted}
use Rattle.rdp_check.proofs.FirstLaws.{check-numbered, some_bytes, bytes-some, no-zero-command, commands-first}
use Rattle.rdp_state.specs.Resume.{idle, Resumed}
use Rattle.rdp_state.specs.declared.Standing.{Standing}
use Rattle.rdp_state.proofs.StandingLaws.{outcome_in}
use Rattle.rdp_stream.specs.Portions.{Feeding, fresh, fed_bytes, closing_grounds, closed, answer_of}
use Rattle.rdp_stream.specs.Steps.{open_of}
use Rattle.rdp_stream.specs.Arrived.{complete, ArrivedHolds, of_complete, too_long, not_words, past_end, late_grounds, arrived_grounds, FirstArrived}
use Rattle.rdp_stream.proofs.PortionLaws.{resumed, judged_from, fed-joined, fed-refused, fed-list, judged-list}
use Rattle.rdp_stream.proofs.RecordLaws.{over}

module _ (list : List ℕ) where
  abbrev front : List ℕ
  front = take 32768 list

  abbrev q : Resumed
  q = judged_from idle 0 front

  abbrev whole : List ℕ
  whole = complete list

  abbrev o : Judgement
  o = judge_list check_refusals whole

  -- the judgement of the complete commands is that of the first 32,768 bytes
  judged-complete : o ≡ outcome_in q
  judged-complete =
      let alone = (parsed front).alone in
      (λ i. judge check_refusals start 0 (commands-joined (commands_of front) alone i) (rest-joined (commands_of front) alone i)) ∙ judged-list front

  few : length front ≤ 32768
  few = omega (arith, length-take 32768 list)

  abbrev later : List ℕ
  later = drop 32768 list

  abbrev middle : Feeding
  middle = resumed 0 q (length front) (rest_of front)

  split : fed_bytes fresh list ≡ fed_bytes middle later
  split =
      ap (fed_bytes fresh) (sym (take-append-drop 32768 list)) ∙
      fed-joined fresh front later ∙
      ap (λ (f : Feeding). fed_bytes f later) (fed-list front few)

  abbrev end : Answer
  end = answer_of (closed (fed_bytes fresh list))

  -- a complete command is refused
  end_refused : (q.number ≡ 0 → ⊥) → end ≡ answer q.number q.place
  unfolding closing_grounds
  end_refused ne =
      let f : Feeding = record { standing = q.standing; held = []; taken = 8 * q.place; number = q.number; place = q.place } in
      let is : middle ≡ f = rw (ne_eqb q.number 0 ne) in
      ap (λ (x : Feeding). answer_of (closed x)) (split ∙ ap (λ (x : Feeding). fed_bytes x later) is ∙ fed-refused f later ne) ∙
      rw (ne_eqb q.number 0 ne, ne_eqb q.number 0 ne)

  -- none is, and bytes come after the first 32,768
  end-over : q.number ≡ 0 → 32768 < length list → end ≡ first_of (late_grounds list) (answer 0 (length list / 8))
  unfolding closing_grounds late_grounds
  end-over z h =
      let f : Feeding = open_of q.standing (rest_of front) (length front) 0 in
      let is : middle ≡ f = rw (eq-eqb q.number 0 z) in
      let full : length front ≡ 32768 = omega (arith, length-take 32768 list) in
      let more : 0 < length later = omega (arith, length-drop 32768 list) in
      ap (λ (x : Feeding). answer_of (closed x)) (split ∙ ap (λ (x : Feeding). fed_bytes x later) is ∙ over f refl full later more) ∙
      rw (lt-ltb 32768 (length list) h)

  -- none is, and all bytes are within the first 32,768
  module _ (b : Standing) (within : length list ≤ 32768) where
    abbrev all : Feeding
    all = open_of b (rest_of list) (length list) 0

    closing : (ys : List ℕ) → rest_of list ≡ ys → answer_of (closed all) ≡ first_of (late_grounds list) (answer 0 (length list / 8))
    unfolding closing_grounds late_grounds
    closing [] e =
        let p : (length list - 0) / 8 ≡ length list / 8 = omega arith in
        by-test (eqb (length list % 8) 0) (λ t. rw (e, t, le-ltb 32768 (length list) within) (ap (answer 0) p)) (λ g. rw (e, g, le-ltb 32768 (length list) within))
    closing (y ∷ ys) e =
        let n : ℕ = length (y ∷ ys) in
        let p : (length list - n) / 8 ≡ words_in (commands_of list) = omega (arith, length-split list, ap length e) in
        let some : eqb n 0 ≡ false = ne_eqb n 0 (λ z. omega arith) in
        by-test (eqb (length list % 8) 0)
        (λ t. rw (e, t, some, le-ltb 32768 (length list) within) (ap (answer 3) p)) (λ g. rw (e, g, le-ltb 32768 (length list) within))

  end-within : q.number ≡ 0 → length list ≤ 32768 → end ≡ first_of (late_grounds list) (answer 0 (length list / 8))
  end-within z within =
      let r = judged_from idle 0 list in
      let same : q ≡ r = ap (judged_from idle 0) (take_all 32768 list within) in
      let none : r.number ≡ 0 = sym (ap (λ (x : Resumed). x.number) same) ∙ z in
      let is : resumed 0 r (length list) (rest_of list) ≡ open_of r.standing (rest_of list) (length list) 0 = rw (eq-eqb r.number 0 none) in
      ap (λ (x : Feeding). answer_of (closed x)) (fed-list list within ∙ is) ∙ closing r.standing within (rest_of list) refl

  first : IsFirst (CommandHolds check_refusals whole) (command_grounds check_refusals start 0 (commands_of whole) (rest_of whole)) (words_in (commands_of whole)) o.number o.place
  first = commands-first check_refusals whole check-numbered

  end-first : end ≡ first_of (arrived_grounds list) (answer 0 (length list / 8))
  end-first =
      let number : o.number ≡ q.number = ap (λ (x : Judgement). x.number) judged-complete in
      let other = answer 0 (length list / 8) in
      by-test (eqb q.number 0)
      (λ t.
      let z = eqb-true _ _ t in
      by-test (ltb 32768 (length list)) (λ l. end-over z (ltb-true _ _ l)) (λ g. end-within z (ltb-false _ _ g)) ∙
      sym (then-accepted first (late_grounds list) other (number ∙ z)))
      (λ f.
      let ne = eqb-false _ _ f in
      end_refused ne ∙
      (λ i. answer (sym judged-complete i).number (sym judged-complete i).place) ∙
      sym (then-refused first (late_grounds list) other (λ z. ne (sym number ∙ z))))

  -- ---- the order has exactly the refusals that may hold

  abbrev early : List (Ground Answer)
  early = command_grounds check_refusals start 0 (commands_of whole) (rest_of whole)

  to-order : (n p : ℕ) → ArrivedHolds list n p → Among (answer n p) (arrived_grounds list)
  unfolding late_grounds
  to-order n p (of_complete m r h) = among-left (answer m r) early (late_grounds list) (first.listed m r h)
  to-order n p (too_long h) = among-right (answer 1 4096) early (late_grounds list) (inl (rw (lt-ltb _ _ h) tt, refl))
  to-order n p (not_words h) = among-right (answer 2 (length list / 8)) early (late_grounds list) (inr (inl (rw (ne_eqb _ _ h) tt, refl)))
  to-order n p (past_end h) =
      among-right (answer 3 (words_in (commands_of list))) early (late_grounds list) (inr (inr (inl (some_bytes (rest_of list) h, refl))))

  at-answer : (n p m r : ℕ) → answer m r ≡ answer n p → ArrivedHolds list m r → ArrivedHolds list n p
  at-answer n p m r e h = subst (λ (a : Answer). ArrivedHolds list a.number a.place) e h

  from-late : (n p : ℕ) → Among (answer n p) (late_grounds list) → ArrivedHolds list n p
  unfolding late_grounds
  from-late n p (inl h) = at-answer n p 1 4096 h.1 (too_long (ltb-true _ _ (true_of _ h.0)))
  from-late n p (inr (inl h)) = at-answer n p 2 (length list / 8) h.1 (not_words (eqb-false _ _ (false_of _ h.0)))
  from-late n p (inr (inr (inl h))) = at-answer n p 3 (words_in (commands_of list)) h.1 (past_end (bytes-some (rest_of list) h.0))
  from-late n p (inr (inr (inr m))) = absurd m

  from-order : (n p : ℕ) → Among (answer n p) (arrived_grounds list) → ArrivedHolds list n p
  from-order n p m = ⊎_elim (λ a. of_complete n p (first.only n p a)) (from-late n p) (among-parts (answer n p) early (late_grounds list) m)

  no_zero : (n p : ℕ) → ArrivedHolds list n p → n ≡ 0 → ⊥
  no_zero n p (of_complete m r h) z = no-zero-command check_refusals whole check-numbered m r h z
  no_zero n p (too_long h) z = suc-ne-zero 0 z
  no_zero n p (not_words h) z = suc-ne-zero 1 z
  no_zero n p (past_end h) z = suc-ne-zero 2 z

  -- 0 at the words of the list exactly where no refusal holds, and else the first in the order
  pub list-first : FirstArrived list end.number end.place
  list-first =
      let other = answer 0 (length list / 8) in
      answered (ArrivedHolds list) (arrived_grounds list) (length list / 8) to-order from-order (λ p h. no_zero 0 p h refl) end
      (subst (Found (arrived_grounds list) other) (sym end-first) (found (arrived_grounds list) other))
