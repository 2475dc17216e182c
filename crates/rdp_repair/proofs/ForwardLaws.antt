-- The forward passes: the plan that the work buffer holds. Assumes nothing.
use Rattle.std.proofs.Common.{◌≡◌, refl, sym, ap, ap₂, ◌∙◌, subst, List, [], ◌∷◌, ◌++◌, append_assoc, ℕ, suc, ◌+◌, ◌*◌, ◌/◌, ◌%◌, ◌-◌, min, ◌<◌, lt_of_not-le, arith, length, get_or, drop, drop-drop, drop_at, get_or-drop}
use Rattle.std.proofs.Math.Decide.{dec_le}
use Rattle.std.proofs.Math.ListN.{get_or-append}
use Rattle.rdp_repair.specs.Best.{Choice, chosen, best, plan}
use Rattle.rdp_repair.specs.Work.{packed_choice, choices_of, work_of, options_in, inserts_of, Below}
use Rattle.rdp_repair.proofs.ChoiceLaws.{option-small, next-hazards-small}
use Rattle.rdp_repair.proofs.TabulateLaws.{get_d_tabulate}
use Rattle.rdp_repair.proofs.BackLaws.{length-choices}

-- the choice at hazards m in the first sixteen bytes
choice-first : (n : ℕ) (ns rest : List ℕ) (m : ℕ) → m < 16 → get_or (work_of (n ∷ ns) ++ rest) m 0 ≡ packed_choice (chosen n (best ns) m)
unfolding work_of choices_of
choice-first n ns rest m h =
    ap (λ (l : List ℕ). get_or l m 0) (append_assoc (choices_of n (best ns)) (work_of ns) rest) ∙
    get_or-append (choices_of n (best ns)) (work_of ns ++ rest) 0 m (omega (arith, length-choices n (best ns))) ∙
    get_d_tabulate 16 (λ k. packed_choice (chosen n (best ns) k)) m h

unpack : (ch : Choice) (byte : ℕ) → byte ≡ packed_choice ch → byte ≡ 16 * ch.option + ch.next
unfolding packed_choice
unpack ch byte e = e

past : (n : ℕ) (ns rest : List ℕ) → drop 16 (work_of (n ∷ ns) ++ rest) ≡ work_of ns ++ rest
unfolding work_of
past n ns rest =
    ap (drop 16) (append_assoc (choices_of n (best ns)) (work_of ns) rest) ∙
    drop_at (choices_of n (best ns)) (work_of ns ++ rest) 16 (length-choices n (best ns))

-- the plan that the work buffer holds is the least plan
pub options-plan : (ns rest : List ℕ) (m : ℕ) → m < 16 → options_in (length ns) (work_of ns ++ rest) m ≡ plan ns m
unfolding options_in plan
options-plan [] rest m h = refl
options-plan (n ∷ ns) rest m h =
    let ch : Choice = chosen n (best ns) m in
    let byte : ℕ = get_or (work_of (n ∷ ns) ++ rest) m 0 in
    let small : ch.next < 16 = next-hazards-small n (best ns) m ch refl in
    let is_byte : byte ≡ 16 * ch.option + ch.next = unpack ch byte (choice-first n ns rest m h) in
    let is-option : byte / 16 ≡ ch.option = omega arith in
    let is-next : byte % 16 ≡ ch.next = omega arith in
    let is-rest : drop 16 (work_of (n ∷ ns) ++ rest) ≡ work_of ns ++ rest = past n ns rest in
    ap₂ (λ (a : ℕ) (p : List ℕ). a ∷ p) is-option
    (ap₂ (λ (w : List ℕ) (k : ℕ). options_in (length ns) w k) is-rest is-next ∙
    options-plan ns rest ch.next (next-hazards-small n (best ns) m ch refl))

-- every choice is below 64
pub work-below : (ns rest : List ℕ) → Below 64 (work_of ns ++ rest) (16 * length ns)
work-below [] rest k h = absurd (omega arith)
work-below (n ∷ ns) rest k h =
    elim (dec_le 16 k) [
      | yes g ↦ let j : ℕ = k - 16 in
          let e : 16 + j ≡ k = omega arith in
          subst (λ (x : ℕ). get_or (work_of (n ∷ ns) ++ rest) x 0 < 64) e
          (subst (λ (x : ℕ). x < 64) (get_or-drop 16 (work_of (n ∷ ns) ++ rest) j 0)
          (subst (λ (l : List ℕ). get_or l j 0 < 64) (sym (past n ns rest)) (work-below ns rest j (omega arith))))
      | no g ↦ let small : k < 16 = lt_of_not-le g in
          let ch : Choice = chosen n (best ns) k in
          omega (arith, unpack ch _ (choice-first n ns rest k small), option-small n (best ns) k ch refl, next-hazards-small n (best ns) k ch refl)
    ]

-- one command's option, read at i
pub options-at : (work : List ℕ) (i m left : ℕ) →
    options_in (suc left) (drop (16 * i) work) m ≡
    get_or work (16 * i + m) 0 / 16 ∷ options_in left (drop (16 * (i + 1)) work) (get_or work (16 * i + m) 0 % 16)
unfolding options_in
options-at work i m left =
    let past : 16 * i + 16 ≡ 16 * (i + 1) = omega arith in
    ap₂ (λ (b : ℕ) (w : List ℕ). b / 16 ∷ options_in left w (b % 16)) (get_or-drop (16 * i) work m 0)
    (drop-drop 16 (16 * i) work ∙ ap (λ (k : ℕ). drop k work) past)

-- an option and what is left after it
pub inserts-at : (work : List ℕ) (count i m : ℕ) → i < count →
    inserts_of (options_in (count - i) (drop (16 * i) work) m) ≡
    min (get_or work (16 * i + m) 0 / 16) 1 + inserts_of (options_in (count - (i + 1)) (drop (16 * (i + 1)) work) (get_or work (16 * i + m) 0 % 16))
unfolding inserts_of
inserts-at work count i m h =
    let left : count - i ≡ suc (count - (i + 1)) = omega arith in
    ap (λ (n : ℕ). inserts_of (options_in n (drop (16 * i) work) m)) left ∙ ap inserts_of (options-at work i m (count - (i + 1)))

pub inserts-end : (work : List ℕ) (m n : ℕ) → n ≡ 0 → inserts_of (options_in n work m) ≡ 0
unfolding inserts_of options_in
inserts-end work m n e = ap (λ (k : ℕ). inserts_of (options_in k work m)) e
