-- The backward pass: what one step of it leaves. Assumes nothing.
use Rattle.std.proofs.Common.{◌≡◌, refl, sym, ap, ap₂, ◌∙◌, subst, List, [], ◌∷◌, ◌++◌, append_assoc, ℕ, suc, ◌+◌, ◌*◌, ◌<◌, ◌≤◌, arith, length, get_or, take, drop, length-append, length-take, length-drop, take-append-drop, drop-cons, take-take, drop_at, get_or-take}
use Rattle.std.proofs.Math.ListN.{get_or-append}
use Rattle.std.proofs.Math.Seq.{take-append-le, drop-length}
use Rattle.rdp_words.specs.Words.{overwrite, pasted}
use Rattle.rdp_words.proofs.OverwriteLaws.{overwrite-is, pasted-is}
use Rattle.rdp_hazards.specs.Hazards.{next_of}
use Rattle.rdp_repair.specs.Plan.{sync_at, wait_of}
use Rattle.rdp_repair.specs.Best.{Choice, cleared_by, total_with, choice_of, prefer, chosen, best}
use Rattle.rdp_repair.specs.Work.{tabulate, packed_choice, totals_of, choices_of, Bounded, Below, noted_in, work_of}
use Rattle.rdp_hazards.proofs.HazardLaws.{next_small}
use Rattle.rdp_repair.proofs.SyncLaws.{pipe-serves}
use Rattle.rdp_repair.proofs.ChoiceLaws.{right-chosen}
use Rattle.rdp_repair.proofs.TabulateLaws.{length-tabulate, get_d_tabulate, tabulate-same, tabulate-most, length-noted, number-noted}

-- ---- a choice looks at the totals below 16 only

module _ (n : ℕ) (f g : ℕ → ℕ) (agree : (k : ℕ) → k < 16 → f k ≡ g k) (m : ℕ) where
  total-same : (a : ℕ) → total_with n f m a ≡ total_with n g m a
  unfolding total_with
  total-same a = ap (λ (t : ℕ). t + wait_of a) (agree (next_of (cleared_by a m) n) (next_small (cleared_by a m) n))

  choice-same : (a : ℕ) → choice_of n f m a ≡ choice_of n g m a
  unfolding choice_of
  choice-same a = λ i. record { total = total-same a i; option = a; next = next_of (cleared_by a m) n }

  prefer-same : (a : ℕ) (p q : Choice) → p ≡ q → prefer n f m a p ≡ prefer n g m a q
  unfolding prefer
  prefer-same a p q e = simp (total-same a, choice-same a, e)

  pub chosen-same : chosen n f m ≡ chosen n g m
  unfolding chosen
  chosen-same = prefer-same 0 _ _ (prefer-same 1 _ _ (prefer-same 2 _ _ (choice-same 3)))

module _ (n : ℕ) (f : ℕ → ℕ) where
  pub totals-tabulated : totals_of n (λ k. get_or (tabulate 16 f) k 0) ≡ totals_of n f
  unfolding totals_of
  totals-tabulated =
      tabulate-same 16 (λ m. (chosen n (λ k. get_or (tabulate 16 f) k 0) m).total) (λ m. (chosen n f m).total)
      (λ m _. ap (λ (ch : Choice). ch.total) (chosen-same n (λ k. get_or (tabulate 16 f) k 0) f (get_d_tabulate 16 f) m))

  pub choices-tabulated : choices_of n (λ k. get_or (tabulate 16 f) k 0) ≡ choices_of n f
  unfolding choices_of
  choices-tabulated =
      tabulate-same 16 (λ m. packed_choice (chosen n (λ k. get_or (tabulate 16 f) k 0) m)) (λ m. packed_choice (chosen n f m))
      (λ m _. ap packed_choice (chosen-same n (λ k. get_or (tabulate 16 f) k 0) f (get_d_tabulate 16 f) m))

-- ---- totals fit

pub best-most : (ns : List ℕ) (m : ℕ) → best ns m ≤ 50 * length ns
unfolding best total_with wait_of sync_at
best-most [] m = omega arith
best-most (n ∷ ns) m =
    omega (arith, (right-chosen n (best ns) m).least 3 (omega arith) (pipe-serves 0 m n), best-most ns (next_of (cleared_by 3 m) n))

pub best-bounded : (ns : List ℕ) → length ns ≤ 2048 → Bounded 102400 (tabulate 16 (best ns))
best-bounded ns h = tabulate-most 16 (best ns) 102400 (λ m. omega (arith, best-most ns m))

-- ---- the work buffer after the step at command i

pub length-choices : (n : ℕ) (f : ℕ → ℕ) → length (choices_of n f) ≡ 16
unfolding choices_of
length-choices n f = length-tabulate 16 (λ m. packed_choice (chosen n f m))

pub length-work : (ns : List ℕ) → length (work_of ns) ≡ 16 * length ns
unfolding work_of
length-work [] = refl
length-work (n ∷ ns) = length-append (choices_of n (best ns)) (work_of ns) ∙ omega (arith, length-choices n (best ns), length-work ns)

-- the numbers before i are still noted, and the choices stand from i on
abbrev pub back_to : List ℕ → ℕ → ℕ → List ℕ
back_to work count i = take (16 * i) work ++ (work_of (drop i (noted_in work count)) ++ drop (16 * count) work)

module _ (work : List ℕ) (count : ℕ) (room : 16 * count ≤ length work) where
  pub no-numbers-left : drop count (noted_in work count) ≡ []
  no-numbers-left = subst (λ (k : ℕ). drop k (noted_in work count) ≡ []) (length-noted work count) (drop-length (noted_in work count))

  pub back_start : back_to work count count ≡ work
  unfolding work_of
  back_start =
      ap (λ (ns : List ℕ). take (16 * count) work ++ (work_of ns ++ drop (16 * count) work)) (no-numbers-left) ∙
      take-append-drop (16 * count) work

  pub back-number : (i : ℕ) → i < count → get_or (back_to work count (suc i)) (16 * i) 0 ≡ get_or (noted_in work count) i 0
  back-number i h =
      get_or-append (take (16 * suc i) work) _ 0 (16 * i) (simp length-take (omega arith)) ∙
      get_or-take (16 * suc i) work (16 * i) 0 (omega arith) ∙
      sym (number-noted work count i h)

  pub length_back : (i : ℕ) → i ≤ count → length (back_to work count i) ≡ length work
  length_back i h =
      simp (length-append, length-take, length-drop, length-work, length-noted) (omega arith)

  pub back_step : (i : ℕ) → i < count
      → pasted (16 * i) (choices_of (get_or (noted_in work count) i 0) (best (drop (suc i) (noted_in work count)))) (back_to work count (suc i)) ≡ back_to work count i
  unfolding work_of
  back_step i h =
      let ns : List ℕ = noted_in work count in
      let s : List ℕ = choices_of (get_or ns i 0) (best (drop (suc i) ns)) in
      let head : List ℕ = take (16 * suc i) work in
      let tail : List ℕ = drop (16 * count) work in
      let rest : List ℕ = work_of (drop (suc i) ns) ++ tail in
      let n : length s ≡ 16 = length-choices (get_or ns i 0) (best (drop (suc i) ns)) in
      let l : length head ≡ 16 * i + length s = simp length-take (omega arith) in
      let front : take (16 * i) (head ++ rest) ≡ take (16 * i) work =
      take-append-le (16 * i) head rest (omega arith) ∙ take-take (16 * i) (16 * suc i) work (omega arith)
      in
      pasted-is (16 * i) s (head ++ rest) _ refl ∙
      ap₂ (λ (x y : List ℕ). x ++ (s ++ y)) front (drop_at head rest (16 * i + length s) l) ∙
      ap (λ (x : List ℕ). take (16 * i) work ++ x) (sym (append_assoc s (work_of (drop (suc i) ns)) tail)) ∙
      ap (λ (x : List ℕ). take (16 * i) work ++ (work_of x ++ tail)) (sym (drop-cons ns i 0 (omega (arith, length-noted work count))))

  pub back_end : back_to work count 0 ≡ overwrite (work_of (noted_in work count)) work
  back_end =
      let e : length (work_of (noted_in work count)) ≡ 16 * count = omega (arith, length-work (noted_in work count), length-noted work count) in
      sym (overwrite-is (work_of (noted_in work count)) work _ e)

  -- one turn: the buffer now and the totals now, at command i, give those at i
  module _ (i : ℕ) (in-range : i < count) (now : List ℕ) (is-now : now ≡ back_to work count (suc i))
      (totals : List ℕ) (are-totals : totals ≡ tabulate 16 (best (drop (suc i) (noted_in work count))))
      (number : ℕ) (is_number : number ≡ get_or now (16 * i) 0) where
    number-here : number ≡ get_or (noted_in work count) i 0
    number-here = is_number ∙ ap (λ (l : List ℕ). get_or l (16 * i) 0) is-now ∙ back-number i in-range

    pub number-below : Below 64 (noted_in work count) count → number < 64
    number-below h = omega (arith, h i in-range, number-here)

    pub totals-bounded : count ≤ 2048 → Bounded 102400 totals
    totals-bounded h =
        subst (Bounded 102400) (sym are-totals)
        (best-bounded (drop (suc i) (noted_in work count)) (simp (length-drop, length-noted) (omega arith)))

    pub turn-totals : (next : List ℕ) → next ≡ totals_of number (λ k. get_or totals k 0) → next ≡ tabulate 16 (best (drop i (noted_in work count)))
    unfolding totals_of best
    turn-totals next e =
        let ns : List ℕ = noted_in work count in
        e ∙
        ap₂ (λ (n : ℕ) (t : List ℕ). totals_of n (λ k. get_or t k 0)) number-here are-totals ∙
        totals-tabulated (get_or ns i 0) (best (drop (suc i) ns)) ∙
        ap (λ (l : List ℕ). tabulate 16 (best l)) (sym (drop-cons ns i 0 (omega (arith, length-noted work count))))

    pub turn-work : (choices : List ℕ) → choices ≡ choices_of number (λ k. get_or totals k 0)
        → pasted (16 * i) choices now ≡ back_to work count i
    turn-work choices e =
        let ns : List ℕ = noted_in work count in
        ap₂ (λ (d s : List ℕ). pasted (16 * i) s d) is-now
        (e ∙
        ap₂ (λ (n : ℕ) (t : List ℕ). choices_of n (λ k. get_or t k 0)) number-here are-totals ∙
        choices-tabulated (get_or ns i 0) (best (drop (suc i) ns))) ∙
        back_step i in-range
