-- Commands that are left out: planned as no operations they have nothing before them, so the plan is that of the commands that remain. Assumes nothing.
use Rattle.std.proofs.Common.{◌≡◌, refl, sym, ap, ap₂, ◌∙◌, Bool, true, false, cond, List, [], ◌∷◌, ◌++◌, ℕ, zero, suc, ◌+◌, ◌*◌, ◌<◌, ◌≤◌, min, arith, eqb, eqb→eq, length}
use Rattle.rdp_words.specs.Kinds.{kind_of}
use Rattle.rdp_words.specs.Lengths.{first_number}
use Rattle.rdp_words.proofs.Tests.{below, by-test}
use Rattle.rdp_hazards.specs.Hazards.{next_of, required_of}
use Rattle.rdp_check.specs.Commands.{commands_of, rest_of, words_in, joined}
use Rattle.rdp_check.specs.Check.{repair_refusals}
use Rattle.rdp_repair.specs.Plan.{wait_of, with_option, applied}
use Rattle.rdp_repair.specs.Best.{Choice, cleared_by, total_with, chosen, best, plan, command_numbers, planned, repaired_bytes, least_cycles}
use Rattle.rdp_repair.specs.Afresh.{is_forgotten, others}
use Rattle.rdp_repair.specs.Work.{drops, basis_of, noted_number, noted_of, kept_words, kept_words_in, kept_of, kept_all, inserts_of, option_bytes}
use Rattle.rdp_hazards.proofs.HazardLaws.{next_small}
use Rattle.rdp_repair.proofs.ChoiceLaws.{next-hazards-small}
use Rattle.rdp_repair.proofs.LeastLaws.{right, chosen-next, chosen-total, save}
use Rattle.rdp_repair.proofs.BackLaws.{chosen-same}
use Rattle.rdp_repair.proofs.WriteLaws.{joined-with}
use Rattle.rdp_check.proofs.JoinLaws.{parsed, length-joined, joined-whole}
use Rattle.rdp_repair.proofs.RepairedLaws.{Sound}
use Rattle.rdp_repair.proofs.AfreshLaws.{commands-without, sound-without}

-- ---- a no operation

idle-next : (m : ℕ) → m < 16 → next_of m 0 ≡ m
unfolding next_of kind_of
idle-next m h = eqb→eq _ _ (below 16 (λ k. eqb (next_of k 0) k) tt m h)

idle-requires : (m : ℕ) → required_of m 0 ≡ 0
unfolding required_of kind_of
idle-requires m = refl

cleared-small : (a m : ℕ) → m < 16 → cleared_by a m < 16
unfolding cleared_by
cleared-small zero m h = h
cleared-small (suc a) m h = next_small m _

-- nothing stands before it, and the rest follows as without it
record Idle (ns : List ℕ) (m : ℕ) (ch : Choice) : Type 0 where
  option : ch.option ≡ 0
  next : ch.next ≡ m
  total : ch.total ≡ best ns m

idle : (ns : List ℕ) (m : ℕ) → m < 16 → Idle ns m (chosen 0 (best ns) m)
unfolding total_with cleared_by wait_of
idle ns m h =
    let ch : Choice = chosen 0 (best ns) m in
    let a : ℕ = ch.option in
    let stays : best ns (next_of m 0) ≡ best ns m = ap (best ns) (idle-next m h) in
    let after : best ns (next_of (cleared_by a m) 0) ≡ best ns (cleared_by a m) = ap (best ns) (idle-next (cleared_by a m) (cleared-small a m h)) in
    let total : ch.total ≡ best ns m =
    omega (arith, (right 0 ns m).least 0 (omega arith) (idle-requires m), chosen-total 0 ns m, save ns m a, stays, after) in
    let none : a ≡ 0 = omega (arith, (right 0 ns m).first 0 (omega arith) (idle-requires m) (omega (arith, stays, total))) in
    record {
      option = none;
      next = chosen-next 0 ns m ∙ ap (λ (b : ℕ). next_of (cleared_by b m) 0) none ∙ idle-next m h;
      total = total;
    }

-- ---- the commands that remain

remaining : Bool → List (List ℕ) → List (List ℕ)
remaining afresh [] = []
remaining afresh (c ∷ cs) = cond (drops afresh (first_number c)) (remaining afresh cs) (c ∷ remaining afresh cs)

remaining-all : (cs : List (List ℕ)) → remaining false cs ≡ cs
unfolding remaining
remaining-all [] = refl
remaining-all (c ∷ cs) = ap (λ (x : List (List ℕ)). c ∷ x) (remaining-all cs)

remaining-others : (cs : List (List ℕ)) → remaining true cs ≡ others cs
unfolding remaining others
remaining-others [] = refl
remaining-others (c ∷ cs) = ap (λ (x : List (List ℕ)). cond (is_forgotten (first_number c)) x (c ∷ x)) (remaining-others cs)

commands-basis : (afresh : Bool) (list : List ℕ) → commands_of (basis_of afresh list) ≡ remaining afresh (commands_of list)
commands-basis false list = sym (remaining-all (commands_of list))
commands-basis true list = commands-without list ∙ sym (remaining-others (commands_of list))

pub sound-basis : (afresh : Bool) (list : List ℕ) → Sound repair_refusals list → Sound repair_refusals (basis_of afresh list)
sound-basis false list s = s
sound-basis true list s = sound-without list s

-- ---- their plan

none_before : (x : List ℕ) → option_bytes 0 ++ ([] ++ x) ≡ x
unfolding option_bytes
none_before x = refl

none-inserted : (k : ℕ) → min 0 1 + k ≡ k
none-inserted k = omega arith

module _ (afresh : Bool) where
  noted-best : (cs : List (List ℕ)) (m : ℕ) → m < 16 → best (noted_of afresh cs) m ≡ best (command_numbers (remaining afresh cs)) m
  unfolding best noted_number remaining
  noted-best [] m h = refl
  noted-best (c ∷ cs) m h =
      by-test (drops afresh (first_number c))
      (λ t. rw t ((idle (noted_of afresh cs) m h).total ∙ noted-best cs m h))
      (λ f. rw f (ap (λ (ch : Choice). ch.total) (chosen-same (first_number c) (best (noted_of afresh cs)) (best (command_numbers (remaining afresh cs))) (noted-best cs) m)))

  noted-bytes : (cs : List (List ℕ)) (m : ℕ) → m < 16
      → joined (applied (plan (noted_of afresh cs) m) (kept_all afresh cs)) ≡ joined (applied (plan (command_numbers (remaining afresh cs)) m) (remaining afresh cs))
  unfolding plan applied noted_number kept_of remaining
  noted-bytes [] m h = refl
  noted-bytes (c ∷ cs) m h =
      let n : ℕ = first_number c in
      let ns : List ℕ = noted_of afresh cs in
      let ks : List (List ℕ) = kept_all afresh cs in
      let rs : List (List ℕ) = remaining afresh cs in
      by-test (drops afresh n)
      (λ t.
      let i = idle ns m h in
      rw t
      (ap₂ (λ (a k : ℕ). joined (with_option a [] (applied (plan ns k) ks))) i.option i.next ∙
      joined-with 0 [] (applied (plan ns m) ks) ∙
      none_before (joined (applied (plan ns m) ks)) ∙
      noted-bytes cs m h))
      (λ f.
      let ch : Choice = chosen n (best (command_numbers rs)) m in
      rw f
      (ap (λ (x : Choice). joined (with_option x.option c (applied (plan ns x.next) ks))) (chosen-same n (best ns) (best (command_numbers rs)) (noted-best cs) m) ∙
      joined-with ch.option c (applied (plan ns ch.next) ks) ∙
      ap (λ (x : List ℕ). option_bytes ch.option ++ (c ++ x)) (noted-bytes cs ch.next (next-hazards-small n (best (command_numbers rs)) m ch refl)) ∙
      sym (joined-with ch.option c (applied (plan (command_numbers rs) ch.next) rs))))

  noted-inserts : (cs : List (List ℕ)) (m : ℕ) → m < 16 → inserts_of (plan (noted_of afresh cs) m) ≡ inserts_of (plan (command_numbers (remaining afresh cs)) m)
  unfolding plan inserts_of noted_number remaining
  noted-inserts [] m h = refl
  noted-inserts (c ∷ cs) m h =
      let n : ℕ = first_number c in
      let ns : List ℕ = noted_of afresh cs in
      let rs : List (List ℕ) = remaining afresh cs in
      by-test (drops afresh n)
      (λ t.
      let i = idle ns m h in
      rw t (ap₂ (λ (a k : ℕ). min a 1 + inserts_of (plan ns k)) i.option i.next ∙ none-inserted (inserts_of (plan ns m)) ∙ noted-inserts cs m h))
      (λ f.
      let ch : Choice = chosen n (best (command_numbers rs)) m in
      rw f
      (ap (λ (x : Choice). min x.option 1 + inserts_of (plan ns x.next)) (chosen-same n (best ns) (best (command_numbers rs)) (noted-best cs) m) ∙
      ap (λ (k : ℕ). min ch.option 1 + k) (noted-inserts cs ch.next (next-hazards-small n (best (command_numbers rs)) m ch refl))))

  kept-words : (cs : List (List ℕ)) → kept_words_in afresh cs ≡ words_in (remaining afresh cs)
  unfolding kept_words remaining
  kept-words [] = refl
  kept-words (c ∷ cs) = by-test (drops afresh (first_number c)) (λ t. rw t (omega (arith, kept-words cs))) (λ f. rw f (omega (arith, kept-words cs)))

  pub kept-most : (cs : List (List ℕ)) → kept_words_in afresh cs ≤ words_in cs
  unfolding kept_words
  kept-most [] = omega arith
  kept-most (c ∷ cs) = by-test (drops afresh (first_number c)) (λ t. rw t (omega (arith, kept-most cs))) (λ f. rw f (omega (arith, kept-most cs)))

  pub noted_small : (n : ℕ) → n < 64 → noted_number afresh n < 64
  unfolding noted_number
  noted_small n h = by-test (drops afresh n) (λ t. rw t (omega arith)) (λ f. rw f h)

  -- ---- of a list

  module _ (list : List ℕ) where
    abbrev basis : List ℕ
    basis = basis_of afresh list

    pub best-basis : best (noted_of afresh (commands_of list)) 0 ≡ least_cycles basis
    best-basis =
        noted-best (commands_of list) 0 (omega arith) ∙ ap (λ (cs : List (List ℕ)). best (command_numbers cs) 0) (sym (commands-basis afresh list))

    pub bytes-basis : joined (applied (plan (noted_of afresh (commands_of list)) 0) (kept_all afresh (commands_of list))) ≡ repaired_bytes basis
    unfolding repaired_bytes planned
    bytes-basis =
        noted-bytes (commands_of list) 0 (omega arith) ∙ ap (λ (cs : List (List ℕ)). joined (applied (plan (command_numbers cs) 0) cs)) (sym (commands-basis afresh list))

    pub inserts-basis : inserts_of (plan (noted_of afresh (commands_of list)) 0) ≡ inserts_of (plan (command_numbers (commands_of basis)) 0)
    inserts-basis =
        noted-inserts (commands_of list) 0 (omega arith) ∙ ap (λ (cs : List (List ℕ)). inserts_of (plan (command_numbers cs) 0)) (sym (commands-basis afresh list))

    pub words-basis : kept_words_in afresh (commands_of list) ≡ words_in (commands_of basis)
    words-basis = kept-words (commands_of list) ∙ ap words_in (sym (commands-basis afresh list))

    -- a list of whole commands is as long as its words
    pub long-basis : rest_of basis ≡ [] → length basis ≡ 8 * kept_words_in afresh (commands_of list)
    long-basis none =
        ap length (sym (joined-whole basis none)) ∙ length-joined (commands_of basis) (parsed basis).alone ∙ ap (λ (k : ℕ). 8 * k) (sym words-basis)
