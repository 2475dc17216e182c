-- What the passes of the repair give together: the work buffer from pass to pass, and the answers. Assumes nothing.
use Rattle.std.proofs.Common.{◌≡◌, refl, sym, ap, ap₂, ◌∙◌, subst, Bool, not, List, [], ◌∷◌, ◌++◌, ℕ, zero, suc, ◌+◌, ◌*◌, ◌/◌, ◌<◌, ◌≤◌, arith, T, eqb, length, get_or, take, drop, replicate, eqb-true, lt-ltb, le-ltb, ne_eqb}
use Rattle.std.proofs.Math.ListN.{length-map, length-replicate}
use Rattle.rdp_words.proofs.OverwriteLaws.{overwrite-is, take-overwrite, overwrite-twice}
use borrow.Author.Tests.{eqb-false}
use Rattle.rdp_words.specs.Words.{word_at, overwrite}
use Rattle.rdp_words.specs.Lengths.{first_number}
use Rattle.rdp_check.specs.Commands.{commands_of, rest_of, joined}
use Rattle.rdp_check.specs.Check.{State, own_refusals, repair_refusals, checked}
use Rattle.rdp_repair.specs.Plan.{applied}
use Rattle.rdp_repair.specs.Best.{best, plan, repaired_bytes, least_cycles}
use Rattle.rdp_repair.specs.Work.{basis_of, noted_number, noted_of, kept_words_in, kept_of, kept_all, noted_in, work_of, options_in, inserts_of, Below, due_bytes, NotedIs, BackwardIs, answered_by, Repairs}
use Rattle.rdp_repair.specs.Repair.{LeastRepair, Repairable, repair_answer, repair_of, out_after, work_after, RepairsBy, RepairIs}
use Rattle.rdp_repair.specs.Afresh.{without, LeastAfresh, AfreshIs}
use Rattle.rdp_check.specs.Check.{Checked}
use Rattle.rdp_repair.specs.Repair.{Repaired}
use Rattle.rdp_repair.specs.declared.repairing.Noted.{Noted}
use Rattle.rdp_words.proofs.Tests.{by-test, false_of}
use Rattle.rdp_words.proofs.PlaceLaws.{number_small}
use Rattle.rdp_repair.proofs.BackLaws.{length-work}
use Rattle.rdp_repair.proofs.ForwardLaws.{options-plan, work-below}
use Rattle.rdp_check.proofs.JoinLaws.{words_inside}
use Rattle.rdp_check.proofs.OrderLaws.{all_give}
use Rattle.rdp_check.proofs.FirstLaws.{own-numbered, judge-first, outcome-gives}
use Rattle.rdp_repair.proofs.PassLaws.{few_commands}
use Rattle.rdp_repair.proofs.RepairedLaws.{Sound, sound, inserts-most, length-repaired, repaired-most, least-repair, least-unique}
use Rattle.rdp_repair.proofs.LeastLaws.{length-plan}
use Rattle.rdp_repair.proofs.AfreshLaws.{least-afresh, afresh-unique}
use Rattle.rdp_repair.proofs.DropLaws.{noted_small, kept-most, sound-basis, bytes-basis, inserts-basis, long-basis}
use Rattle.rdp_repair.proofs.RoomLaws.{judged, repairable-judged, roomed, repair-refused, repair-roomed}

-- ---- the work buffer from pass to pass

numbers-small : (afresh : Bool) (cs : List (List ℕ)) (k : ℕ) → get_or (noted_of afresh cs) k 0 < 64
numbers-small afresh [] k = omega arith
numbers-small afresh (c ∷ cs) zero = noted_small afresh (first_number c) (number_small (word_at c 0))
numbers-small afresh (c ∷ cs) (suc k) = numbers-small afresh cs k

pub noted-long : (afresh : Bool) (cs : List (List ℕ)) → length (noted_of afresh cs) ≡ length cs
noted-long afresh cs = length-map cs (λ c. noted_number afresh (first_number c))

work-long : (afresh : Bool) (cs : List (List ℕ)) → length (work_of (noted_of afresh cs)) ≡ 16 * length cs
work-long afresh cs = length-work (noted_of afresh cs) ∙ ap (λ (k : ℕ). 16 * k) (noted-long afresh cs)

module _ (afresh : Bool) (list work noted : List ℕ) (r : Noted) (is-noted : NotedIs afresh list work r noted) where
  abbrev count : ℕ
  count = r.commands

  noted-are : noted_in noted count ≡ noted_of afresh (commands_of list)
  noted-are = ap (noted_in noted) is-noted.counted ∙ is-noted.numbers

  pub noted-below : Below 64 (noted_in noted count) count
  noted-below k h = subst (λ (l : List ℕ). get_or l k 0 < 64) (sym noted-are) (numbers-small afresh (commands_of list) k)

  module _ (cycles : ℕ) (work' : List ℕ) (back : BackwardIs count cycles noted work') where
    pub cycles-are : cycles ≡ best (noted_of afresh (commands_of list)) 0
    cycles-are = back.least ∙ ap (λ (ns : List ℕ). best ns 0) noted-are

    pub choices-are : work' ≡ overwrite (work_of (noted_of afresh (commands_of list))) work
    choices-are =
        let ns : List ℕ = noted_of afresh (commands_of list) in
        let long : length (work_of ns) ≡ 16 * length (commands_of list) = work-long afresh (commands_of list) in
        back.choices ∙
        ap (λ (l : List ℕ). overwrite (work_of l) noted) noted-are ∙
        overwrite-is (work_of ns) noted _ long ∙
        ap (λ (l : List ℕ). work_of ns ++ l) is-noted.beyond ∙
        sym (overwrite-is (work_of ns) work _ long)

-- ---- the plan that the work buffer holds

module _ (afresh : Bool) (list work work' : List ℕ) (held : work' ≡ overwrite (work_of (noted_of afresh (commands_of list))) work) where
  abbrev ns : List ℕ
  ns = noted_of afresh (commands_of list)

  abbrev beyond : List ℕ
  beyond = drop (length (work_of ns)) work

  held-is : work' ≡ work_of ns ++ beyond
  held-is = held ∙ overwrite-is (work_of ns) work _ refl

  pub choices-below : Below 64 work' (16 * length (commands_of list))
  choices-below =
      subst (λ (l : List ℕ). Below 64 l (16 * length (commands_of list))) (sym held-is)
      (subst (λ (k : ℕ). Below 64 (work_of ns ++ beyond) (16 * k)) (noted-long afresh (commands_of list)) (work-below ns beyond))

  pub plan-held : options_in (length (commands_of list)) work' 0 ≡ plan ns 0
  plan-held =
      ap₂ (λ (k : ℕ) (l : List ℕ). options_in k l 0) (sym (noted-long afresh (commands_of list))) held-is ∙ options-plan ns beyond 0 (omega arith)

  pub due-held : due_bytes afresh list work' ≡ repaired_bytes (basis_of afresh list)
  due-held =
      ap (λ (k : ℕ). joined (applied (options_in k work' 0) (kept_all afresh (commands_of list)))) (length-map (commands_of list) (kept_of afresh)) ∙
      ap (λ (p : List ℕ). joined (applied p (kept_all afresh (commands_of list)))) plan-held ∙
      bytes-basis afresh list

  pub work-cleared :
      (n : ℕ) → n ≡ length (commands_of list) → overwrite (replicate (16 * n) 0) work' ≡ overwrite (replicate (16 * length (commands_of list)) 0) work
  work-cleared n e =
      let k : ℕ = 16 * length (commands_of list) in
      ap (λ (m : ℕ). overwrite (replicate (16 * m) 0) work') e ∙
      ap (overwrite (replicate k 0)) held ∙
      overwrite-twice (replicate k 0) (work_of ns) work (length-replicate k 0 ∙ sym (work-long afresh (commands_of list)))

-- ---- a list that none of refusals 1 to 6 and 19 holds for

pub list-short : (list : List ℕ) → (judged list).number ≡ 0 → length list ≤ 16384
list-short list e = (sound repair_refusals own-numbered list e).short

pub commands-few : (list : List ℕ) → (judged list).number ≡ 0 → length (commands_of list) ≤ 2048
commands-few list e = omega (arith, few_commands list, list-short list e)

-- at most a sync a command, and the words of the list
pub words-few :
    (afresh : Bool) (list : List ℕ) → length list ≤ 16384 → kept_words_in afresh (commands_of list) + inserts_of (plan (noted_of afresh (commands_of list)) 0) ≤ 4096
words-few afresh list short =
    let p : List ℕ = plan (noted_of afresh (commands_of list)) 0 in
    omega (
      arith,
      inserts-most p,
      length-plan (noted_of afresh (commands_of list)) 0,
      noted-long afresh (commands_of list),
      few_commands list,
      kept-most afresh (commands_of list),
      words_inside list,
    )

-- by the words that are kept and those that the plan inserts
pub words-needed :
    (afresh : Bool) (list : List ℕ) → (judged list).number ≡ 0 → (words : ℕ) →
    words ≡ kept_words_in afresh (commands_of list) + inserts_of (plan (noted_of afresh (commands_of list)) 0) →
    (length (repaired_bytes (basis_of afresh list)) ≡ 8 * words) × (words ≤ 4096)
words-needed afresh list e words w =
    let basis : List ℕ = basis_of afresh list in
    let none : rest_of basis ≡ [] = (sound-basis afresh list (sound repair_refusals own-numbered list e)).none in
    let short : length basis ≤ 16384 = (sound-basis afresh list (sound repair_refusals own-numbered list e)).short in
    let long : length (repaired_bytes basis) ≡ 8 * words = omega (arith, length-repaired basis none, long-basis afresh list none, inserts-basis afresh list) in
    (long, omega (arith, long, repaired-most basis none, short))

-- ---- the answers

-- 14 is no refusal of the list
abbrev not_out : ℕ → Bool
not_out n = not (eqb n 14)

own-not-out : (s : State) (c : List ℕ) → T (all_give not_out (repair_refusals s c))
unfolding own_refusals
own-not-out s c = tt

fourteen : ◌≡◌ {A = ℕ} 14 0 → ⊥
fourteen e = omega arith

module _ (basis list work out : List ℕ) where
  -- a refusal but 14 leaves both buffers as they were
  untouched : (r : Repaired) → r ≡ answered_by basis list work out → (r.number ≡ 0 → ⊥) → (r.number ≡ 14 → ⊥) → Repairs basis list work out r work out
  unfolding out_after work_after
  untouched r e z y =
      record {
        answer = e;
        output = rw (ne_eqb _ _ z);
        cleared = rw (ne_eqb _ _ z, ne_eqb _ _ y);
        done = λ n. absurd (z n);
      }

  pub refused : (r : Checked) → r ≡ checked list (judged list) → (r.number ≡ 0 → ⊥) → Repairs basis list work out (repair_answer r.number r.place 0) work out
  refused r e z =
      let number : r.number ≡ (judged list).number = ap (λ (x : Checked). x.number) e in
      untouched _
      (ap₂ (λ (n p : ℕ). repair_answer n p 0) number (ap (λ (x : Checked). x.place) e) ∙
      sym (repair-refused list _ _ (length work) (length out) (λ y. z (number ∙ y)))) z
      (λ y. eqb-false _ _ (false_of _ (outcome-gives not_out repair_refusals own-not-out tt tt tt tt 2048 list)) (sym number ∙ y))

  module _ (clean : (judged list).number ≡ 0) where
    in-room : roomed list (length (repaired_bytes basis)) (least_cycles basis) (length work) (length out) ≡ answered_by basis list work out
    in-room = sym (repair-roomed list _ _ (length work) (length out) clean)

    pub refused-work : (count : ℕ) → count ≡ length (commands_of list) → length work < 16 * count → Repairs basis list work out (repair_answer 13 count 0) work out
    unfolding roomed
    refused-work count e h =
        let short : length work < 16 * length (commands_of list) = omega arith in
        untouched _
        (ap (λ (k : ℕ). repair_answer 13 k 0) e ∙ rw (lt-ltb _ _ short) refl ∙ in-room) (λ z. omega arith) (λ z. omega arith)

    module _ (enough : 16 * length (commands_of list) ≤ length work) (words : ℕ) (long : length (repaired_bytes basis) ≡ 8 * words)
        (work' : List ℕ) (cleared : work' ≡ overwrite (replicate (16 * length (commands_of list)) 0) work) where
      is-words : words ≡ length (repaired_bytes basis) / 8
      is-words = omega arith

      pub refused-out : length out / 8 < words → Repairs basis list work out (repair_answer 14 words 0) work' out
      unfolding roomed out_after work_after
      refused-out h =
          let short : length out < length (repaired_bytes basis) = omega arith in
          record {
            answer = ap (λ (k : ℕ). repair_answer 14 k 0) is-words ∙ rw (le-ltb _ _ enough, lt-ltb _ _ short) refl ∙ in-room;
            output = refl;
            cleared = cleared;
            done = λ n. absurd (fourteen n);
          }

      pub repaired-is :
          words ≤ length out / 8 → (cycles : ℕ) → cycles ≡ least_cycles basis → (out' : List ℕ) → out' ≡ overwrite (repaired_bytes basis) out →
          Repairs basis list work out (repair_answer 0 words cycles) work' out'
      unfolding roomed out_after work_after
      repaired-is h cycles are-cycles out' are-bytes =
          let fits : length (repaired_bytes basis) ≤ length out = omega arith in
          let start : take (8 * words) out' ≡ repaired_bytes basis =
          ap (take (8 * words)) are-bytes ∙ take-overwrite (repaired_bytes basis) out (8 * words) long in
          record {
            answer = ap₂ (repair_answer 0) is-words are-cycles ∙ rw (le-ltb _ _ enough, le-ltb _ _ fits) refl ∙ in-room;
            output = are-bytes;
            cleared = cleared;
            done = λ n. (clean, start, are-cycles);
          }

-- ---- the two repairs, by what it is to be the least list

-- where none of 1 to 6 and 19 holds, the repair of `basis` is the least list for the given one, and the only one
pub record LeastBy (Least : List ℕ → List ℕ → ℕ → Type 0) (basis list : List ℕ) : Type 0 where
  pub is : (judged list).number ≡ 0 → Least list (repaired_bytes basis) (least_cycles basis)
  pub only : {t : List ℕ} {k : ℕ} → (judged list).number ≡ 0 → Least list t k → (t ≡ repaired_bytes basis) × (k ≡ least_cycles basis)

clean-sound : (list : List ℕ) → (judged list).number ≡ 0 → Sound repair_refusals list
clean-sound list = sound repair_refusals own-numbered list

pub first-least : (list : List ℕ) → LeastBy LeastRepair list list
first-least list =
    let is : (judged list).number ≡ 0 → LeastRepair list (repaired_bytes list) (least_cycles list) = λ e. least-repair list (clean-sound list e) in
    record { is = is; only = λ e l. least-unique l (is e) }

pub second-least : (list : List ℕ) → LeastBy LeastAfresh (without list) list
second-least list =
    let is : (judged list).number ≡ 0 → LeastAfresh list (repaired_bytes (without list)) (least_cycles (without list)) = λ e. least-afresh list (clean-sound list e) in
    record { is = is; only = λ e l. afresh-unique l (is e) }

module _ (Least : List ℕ → List ℕ → ℕ → Type 0) (basis list : List ℕ) (by : LeastBy Least basis list) (work out : List ℕ) (r : Repaired) (work' out' : List ℕ) where
  -- such a list is repaired where there is room
  succeeding :
      r ≡ answered_by basis list work out → Repairable list → 16 * length (commands_of list) ≤ length work → length (repaired_bytes basis) ≤ length out → r.number ≡ 0
  unfolding roomed
  succeeding e free enough room =
      ap (λ (x : Repaired). x.number) (e ∙ repair-roomed list _ _ (length work) (length out) (repairable-judged list free)) ∙
      rw (le-ltb _ _ enough, le-ltb _ _ room)

  pub repairs-by : Repairs basis list work out r work' out' → RepairsBy Least list work out r work' out'
  repairs-by h =
      record {
        least = repaired_bytes basis;
        cycles = least_cycles basis;
        is-least = λ free. by.is (repairable-judged list free);
        answer = h.answer;
        output = h.output;
        cleared = h.cleared;
        succeeds = succeeding h.answer;
        written = λ n. let d = h.done n in rw (d.1, d.2) (by.is d.0);
      }

-- ---- the answer and the output, computed

-- where it is refused, the output does not depend on a repair
left_alone : (r : Repaired) (a b out : List ℕ) → (r.number ≡ 0 → ⊥) → out_after r a out ≡ out_after r b out
unfolding out_after
left_alone r a b out z = rw (ne_eqb _ _ z)

-- what a repair ensures leaves nothing open: the answer is that of the plan that `Best` computes, and so is the output
pub record RepairComputes (basis list work out : List ℕ) (r : Repaired) (out' : List ℕ) : Type 0 where
  pub answer : r ≡ answered_by basis list work out
  pub output : out' ≡ out_after r (repaired_bytes basis) out

pub computes_by :
    (Least : List ℕ → List ℕ → ℕ → Type 0) (basis : List ℕ) {list work out work' out' : List ℕ} {r : Repaired} → LeastBy Least basis list →
    RepairsBy Least list work out r work' out' → RepairComputes basis list work out r out'
computes_by Least basis {list} {work} {out} {work'} {out'} {r} by is =
    by-test (eqb (judged list).number 0)
    (λ t.
    let free : Repairable list = ((judge-first repair_refusals list 2048 own-numbered).accepted (eqb-true _ _ t)).1 in
    let same = by.only (eqb-true _ _ t) (is.is-least free) in
    record {
      answer = is.answer ∙ (λ i. repair_of list (length (same.0 i)) (same.1 i) (length work) (length out));
      output = is.output ∙ ap (λ (x : List ℕ). out_after r x out) same.0;
    })
    (λ f.
    let ne = eqb-false _ _ f in
    let refused-by = is.answer ∙ repair-refused list _ _ (length work) (length out) ne in
    record {
      answer = refused-by ∙ sym (repair-refused list _ _ (length work) (length out) ne);
      output = is.output ∙ left_alone r is.least (repaired_bytes basis) out (λ z. ne (sym (ap (λ (x : Repaired). x.number) refused-by) ∙ z));
    })

pub repair-computes : {list work out work' out' : List ℕ} {r : Repaired} → RepairIs list work out r work' out' → RepairComputes list list work out r out'
repair-computes {list} = computes_by LeastRepair list (first-least list)

pub afresh-computes : {list work out work' out' : List ℕ} {r : Repaired} → AfreshIs list work out r work' out' → RepairComputes (without list) list work out r out'
afresh-computes {list} = computes_by LeastAfresh (without list) (second-least list)
