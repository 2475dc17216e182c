-- Laws of `overlay` and `within`. Assumes nothing.
use mathlib.Core.Path.{◌≡◌, refl, sym, ap, ◌∙◌}
use mathlib.Core.Bool.{Bool, true, false, cond, ◌||◌, false≢true}
use mathlib.Core.List.{List, [], ◌∷◌}
use Prim.Native.Nat.{ℕ, zero, suc, ◌+◌, ◌≤◌, ◌<◌}
use native.Mathlib.Nat.{le_refl, zero-add, add-zero, add-suc, suc-add, le_of_suc-le-suc, not-suc-le-zero, lt_of_not-le}
use native.Mathlib.Decide.{dec_le}
use native.Mathlib.Omega.{arith}
use borrow.Author.Tests.{le-leb, lt-ltb, leb-true, ltb-true}
use lib.Dec.{leb, ltb}
use lib.ListN.{length, get_or}
use lib.Seq.{ext_get_or}
use Rattle.rdp_pixels.proofs.BoolLaws.{and_is, same_truth}
use Rattle.rdp_pixels.specs.Overlay.{overlay, within}

-- one order or the other
pub split {ℓ} : {X : Type ℓ} (a b : ℕ) → (a ≤ b → X) → (b < a → X) → X
split a b f g = elim (dec_le a b) [ yes h ↦ f h | no h ↦ g (lt_of_not-le h) ]

-- ---- within

module _ (first end a : ℕ) where
  pub within-true : first ≤ a → a < end → within first end a ≡ true
  within-true h k = simp (le-leb first a h, lt-ltb a end k)

  pub within-is : within first end a ≡ true → (first ≤ a) × (a < end)
  within-is h =
      let parts = and_is (leb first a) (ltb a end) h in
      (leb-true first a parts.0, ltb-true a end parts.1)

  pub within-false : (first ≤ a → a < end → ⊥) → within first end a ≡ false
  within-false out =
      same_truth (within first end a) false (λ h. absurd (out (within-is h).0 (within-is h).1)) (λ h. absurd (false≢true h))

-- two ranges agree at an address that is in both or in neither
pub within_same : (first end first' end' a : ℕ) → (first ≤ a → a < end → (first' ≤ a) × (a < end'))
    → (first' ≤ a → a < end' → (first ≤ a) × (a < end)) → within first end a ≡ within first' end' a
within_same first end first' end' a there back =
    same_truth (within first end a) (within first' end' a)
    (λ h. let in' = there (within-is first end a h).0 (within-is first end a h).1 in within-true first' end' a in'.0 in'.1)
    (λ h. let in' = back (within-is first' end' a h).0 (within-is first' end' a h).1 in within-true first end a in'.0 in'.1)

-- two ranges, the second of which begins in the first or where it ends, are one
pub within-meeting : (first low mid end a : ℕ) → first ≤ low → low ≤ mid → mid ≤ end → (within first mid a || within low end a) ≡ within first end a
within-meeting first low mid end a l h k =
    split mid a
    (λ x.
    rw (within-false first mid a (λ y z. omega arith))
    (within_same low end first end a (λ y z. (omega arith, z)) (λ y z. (omega arith, z))))
    (λ x.
    split first a
    (λ y. rw (within-true first mid a y x, within-true first end a y (omega arith)))
    (λ y. rw (within-false first mid a (λ z w. omega arith), within-false low end a (λ z w. omega arith), within-false first end a (λ z w. omega arith))))

-- the second where the first ends
pub within-joined : (first mid end a : ℕ) → first ≤ mid → mid ≤ end → (within first mid a || within mid end a) ≡ within first end a
within-joined first mid end a l h = within-meeting first mid mid end a l (le_refl mid) h

-- ---- overlay

module _ (p : ℕ → Bool) (v : ℕ → ℕ) where
  pub length-overlay : (a : ℕ) (m : List ℕ) → length (overlay p v a m) ≡ length m
  unfolding overlay
  length-overlay a [] = refl
  length-overlay a (b ∷ m) = ap suc (length-overlay (suc a) m)

  pub get_d-overlay : (a : ℕ) (m : List ℕ) (i : ℕ) → i < length m
      → get_or (overlay p v a m) i 0 ≡ cond (p (a + i)) (v (a + i)) (get_or m i 0)
  unfolding overlay
  get_d-overlay a [] i h = absurd (not-suc-le-zero h)
  get_d-overlay a (b ∷ m) zero h = rw add-zero
  get_d-overlay a (b ∷ m) (suc i) h = rw (add-suc, ← suc-add) (get_d-overlay (suc a) m i (le_of_suc-le-suc h))

  -- a list of memory's length that holds what it should at each index
  pub overlay-is : (a : ℕ) (m l : List ℕ) → length l ≡ length m
      → ((i : ℕ) → i < length m → get_or l i 0 ≡ cond (p (a + i)) (v (a + i)) (get_or m i 0)) → l ≡ overlay p v a m
  overlay-is a m l same at =
      ext_get_or 0 l (overlay p v a m) (same ∙ sym (length-overlay a m))
      (λ i h. let k : i < length m = omega arith in at i k ∙ sym (get_d-overlay a m i k))

  -- nothing is picked
  pub overlay-none : (a : ℕ) (m : List ℕ) → ((i : ℕ) → i < length m → p (a + i) ≡ false) → m ≡ overlay p v a m
  overlay-none a m none = overlay-is a m m refl (λ i h. rw (none i h))

-- the same of memory that starts at 0
module _ (p : ℕ → Bool) (v : ℕ → ℕ) (m : List ℕ) where
  pub get_d-overlay-0 : (i : ℕ) → i < length m → get_or (overlay p v 0 m) i 0 ≡ cond (p i) (v i) (get_or m i 0)
  get_d-overlay-0 i h = get_d-overlay p v 0 m i h ∙ rw zero-add

  pub overlay-is-0 : (l : List ℕ) → length l ≡ length m
      → ((i : ℕ) → i < length m → get_or l i 0 ≡ cond (p i) (v i) (get_or m i 0)) → l ≡ overlay p v 0 m
  overlay-is-0 l same at = overlay-is p v 0 m l same (λ i h. rw zero-add (at i h))

-- another test that picks the same addresses of memory
pub overlay-cong : (p q : ℕ → Bool) (v : ℕ → ℕ) (a : ℕ) (m : List ℕ) → ((i : ℕ) → i < length m → p (a + i) ≡ q (a + i))
    → overlay p v a m ≡ overlay q v a m
overlay-cong p q v a m same =
    overlay-is q v a m (overlay p v a m) (length-overlay p v a m) (λ i h. get_d-overlay p v a m i h ∙ rw (same i h))

-- by indices in place of addresses
pub overlay-from : (test : ℕ → Bool) (v : ℕ → ℕ) (start : ℕ) (m : List ℕ)
    → overlay test v start m ≡ overlay (λ i. test (start + i)) (λ i. v (start + i)) 0 m
overlay-from test v start m =
    overlay-is-0 (λ i. test (start + i)) (λ i. v (start + i)) m (overlay test v start m) (length-overlay test v start m)
    (λ i h. get_d-overlay test v start m i h)

-- one after the other, with the same values, is both at once
pub overlay-overlay : (p q : ℕ → Bool) (v : ℕ → ℕ) (a : ℕ) (m : List ℕ)
    → overlay q v a (overlay p v a m) ≡ overlay (λ k. p k || q k) v a m
overlay-overlay p q v a m =
    overlay-is (λ k. p k || q k) v a m (overlay q v a (overlay p v a m))
    (length-overlay q v a (overlay p v a m) ∙ length-overlay p v a m)
    (λ i h.
    get_d-overlay q v a (overlay p v a m) i (rw length-overlay h)
    ∙ ap (cond (q (a + i)) (v (a + i))) (get_d-overlay p v a m i h)
    ∙ twice (p (a + i)) (q (a + i)) (v (a + i)) (get_or m i 0))
  where
    twice : (s t : Bool) (x y : ℕ) → cond t x (cond s x y) ≡ cond (s || t) x y
    twice true true x y = refl
    twice true false x y = refl
    twice false true x y = refl
    twice false false x y = refl
