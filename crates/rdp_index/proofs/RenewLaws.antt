-- The entries after a replacement: those up to the command's own are kept, the later ones are those built from the new list, and where the entries were
-- built from the old list all of them are those of the new one. Assumes nothing.
use Rattle.std.proofs.Common.{◌≡◌, refl, sym, ap, ◌∙◌, subst, List, [], ◌∷◌, ◌++◌, append_assoc, ℕ, zero, suc, ◌+◌, ◌*◌, ◌-◌, ◌/◌, ◌≤◌, ◌<◌, lt_of_not-le, arith, le-leb, length, get_or, take, drop, length-append, take_at, drop_at, get_or-append-add}
use Rattle.std.proofs.Math.Decide.{dec_le}
use borrow.Author.Tests.{lt-leb}
use Rattle.rdp_command.specs.Decode.{answer}
use Rattle.rdp_words.specs.Words.{overwrite, pasted}
use Rattle.rdp_words.specs.Kinds.{words_of}
use Rattle.rdp_words.specs.Lengths.{first_number}
use Rattle.rdp_hazards.specs.Hazards.{next_of}
use Rattle.rdp_check.specs.Commands.{commands_of, words_in}
use Rattle.rdp_check.proofs.ListLaws.{head}
use Rattle.rdp_check.proofs.JoinLaws.{command-some}
use Rattle.rdp_index.specs.Index.{entries_from, entries_of, entry_count, index_answer, build_out, BuildIs, last_before, with_command, renewed}
use Rattle.rdp_index.specs.Steps.{Fitting}
use Rattle.rdp_index.proofs.BuiltLaws.{double, entries-beyond}
use Rattle.rdp_index.proofs.ReplaceLaws.{room_fits, replaced, same_entries}
use Rattle.rdp_index.proofs.NoteLaws.{index-whole, index-facts}

-- the entries of commands and of the one that follows them
up_to : ℕ → ℕ → ℕ → List (List ℕ) → List ℕ
up_to zero at m [] = at ∷ m ∷ []
up_to (suc k) at m [] = []
up_to zero at m (u ∷ us) = at ∷ m ∷ up_to 63 (at + words_of (first_number u)) (next_of m (first_number u)) us
up_to (suc k) at m (u ∷ us) = up_to k (at + words_of (first_number u)) (next_of m (first_number u)) us

-- the entries after these lie beyond that one
record Parts (place : ℕ) (front es : List ℕ) : Type 0 where
  later : List ℕ
  all : es ≡ front ++ later
  beyond : (i : ℕ) → 2 * i < length later → place < get_or later (2 * i) 0

parts : (k at m : ℕ) (us : List (List ℕ)) (c : List ℕ) (cs : List (List ℕ)) → Parts (at + words_in us) (up_to k at m us) (entries_from k at m (us ++ c ∷ cs))
unfolding up_to entries_from
parts zero at m [] c cs =
    record {
      later = entries_from 63 (at + words_of (first_number c)) (next_of m (first_number c)) cs;
      all = refl;
      beyond = λ i h. omega (arith, command-some c, entries-beyond 63 (at + words_of (first_number c)) (next_of m (first_number c)) cs i h);
    }
parts (suc k) at m [] c cs =
    record {
      later = entries_from k (at + words_of (first_number c)) (next_of m (first_number c)) cs;
      all = refl;
      beyond = λ i h. omega (arith, command-some c, entries-beyond k (at + words_of (first_number c)) (next_of m (first_number c)) cs i h);
    }
parts zero at m (u ∷ us) c cs =
    let p = parts 63 (at + words_of (first_number u)) (next_of m (first_number u)) us c cs in
    record {
      later = p.later;
      all = ap (λ (l : List ℕ). at ∷ m ∷ l) p.all;
      beyond = λ i h. omega (arith, p.beyond i h);
    }
parts (suc k) at m (u ∷ us) c cs =
    let p = parts k (at + words_of (first_number u)) (next_of m (first_number u)) us c cs in
    record { later = p.later; all = p.all; beyond = λ i h. omega (arith, p.beyond i h) }

-- how many they are
up_to-long : (k at m : ℕ) (us : List (List ℕ)) → k ≤ 63 → length (up_to k at m us) ≡ 2 * ((length us + 64 - k) / 64)
unfolding up_to
up_to-long zero at m [] h = refl
up_to-long (suc k) at m [] h = omega arith
up_to-long zero at m (u ∷ us) h =
    omega (arith, up_to-long 63 (at + words_of (first_number u)) (next_of m (first_number u)) us (omega arith))
up_to-long (suc k) at m (u ∷ us) h =
    let e : length us + 64 - k ≡ suc (length us) + 64 - suc k = omega arith in
    up_to-long k (at + words_of (first_number u)) (next_of m (first_number u)) us (omega arith) ∙ ap (λ (n : ℕ). 2 * (n / 64)) e

-- their places are not beyond it
up_to-before : (k at m : ℕ) (us : List (List ℕ)) (i : ℕ) → 2 * i < length (up_to k at m us) → get_or (up_to k at m us) (2 * i) 0 ≤ at + words_in us
unfolding up_to
up_to-before zero at m [] zero h = omega arith
up_to-before zero at m [] (suc i) h = absurd (omega arith)
up_to-before (suc k) at m [] i h = absurd (omega arith)
up_to-before zero at m (u ∷ us) zero h = omega arith
up_to-before zero at m (u ∷ us) (suc i) h =
    let es : List ℕ = up_to 63 (at + words_of (first_number u)) (next_of m (first_number u)) us in
    let inside : 2 * i < length es = omega arith in
    let e : get_or (at ∷ m ∷ es) (2 * suc i) 0 ≡ get_or es (2 * i) 0 = ap (λ (j : ℕ). get_or (at ∷ m ∷ es) j 0) (double i) in
    omega (arith, e, up_to-before 63 (at + words_of (first_number u)) (next_of m (first_number u)) us i inside)
up_to-before (suc k) at m (u ∷ us) i h =
    omega (arith, up_to-before k (at + words_of (first_number u)) (next_of m (first_number u)) us i h)

-- the last entry that is not beyond a place, where the first k are not and the others are
last-is :
    (place : ℕ) (es : List ℕ) (k n : ℕ) → k ≤ n → ((i : ℕ) → i < k → get_or es (2 * i) 0 ≤ place) → ((i : ℕ) → k ≤ i → i < n → place < get_or es (2 * i) 0) →
    last_before place es n ≡ k
unfolding last_before
last-is place es k zero h near far = omega arith
last-is place es k (suc n) h near far =
    elim (dec_le k n) [
      | yes g ↦ rw (lt-leb _ _ (far n g (omega arith))) (last-is place es k n g near (λ i a b. far i a (omega arith)))
      | no g ↦
          let e : suc n ≡ k = omega (arith, lt_of_not-le g) in
          rw (le-leb _ _ (near n (omega arith))) e
    ]

get_d_front : (xs ys : List ℕ) (i : ℕ) → i < length xs → get_or (xs ++ ys) i 0 ≡ get_or xs i 0
get_d_front [] ys i h = absurd (omega arith)
get_d_front (x ∷ xs) ys zero h = refl
get_d_front (x ∷ xs) ys (suc i) h = get_d_front xs ys i (omega arith)

-- the entries in two parts
module _ (place : ℕ) (front : List ℕ) (k : ℕ) (es : List ℕ) (p : Parts place front es) (long : length front ≡ 2 * k)
    (before : (i : ℕ) → 2 * i < length front → get_or front (2 * i) 0 ≤ place) where
  last-parts : last_before place es (length es / 2) ≡ k
  last-parts =
      subst (λ (l : List ℕ). last_before place l (length l / 2) ≡ k) (sym p.all)
      (last-is place (front ++ p.later) k (length (front ++ p.later) / 2) (omega (arith, length-append front p.later))
      (λ i h.
      let inside : 2 * i < length front = omega arith in
      subst (λ (n : ℕ). n ≤ place) (sym (get_d_front front p.later (2 * i) inside)) (before i inside))
      (λ i a b.
      let j : ℕ = i - k in
      let at : length front + 2 * j ≡ 2 * i = omega arith in
      let inside : 2 * j < length p.later = omega (arith, length-append front p.later) in
      let same = ap (λ (x : ℕ). get_or (front ++ p.later) x 0) (sym at) ∙ get_or-append-add front p.later (2 * j) 0 in
      subst (λ (n : ℕ). place < n) (sym same) (p.beyond j inside)))

-- ---- the entries of a list

module _ (list : List ℕ) (before : List (List ℕ)) (c : List ℕ) (after : List (List ℕ)) (e : commands_of list ≡ before ++ c ∷ after) where
  abbrev own : List ℕ
  own = up_to 0 0 0 before

  own-long : length own ≡ 2 * (length before / 64 + 1)
  own-long = omega (arith, up_to-long 0 0 0 before (omega arith))

  own-parts : Parts (words_in before) own (entries_of list)
  own-parts =
      let z : 0 + words_in before ≡ words_in before = omega arith in
      subst (λ (cs : List (List ℕ)). Parts (words_in before) own (entries_from 0 0 0 cs)) (sym e)
      (subst (λ (p : ℕ). Parts p own (entries_from 0 0 0 (before ++ c ∷ after))) z (parts 0 0 0 before c after))

  -- the entries that a replacement keeps: those up to the command's own, one for each 64 commands before it and one more
  pub kept-own : last_before (words_in before) (entries_of list) (length (entries_of list) / 2) ≡ length before / 64 + 1
  kept-own =
      last-parts (words_in before) own (length before / 64 + 1) (entries_of list) own-parts own-long
      (λ i h. omega (arith, up_to-before 0 0 0 before i h))

-- for entries built from the old list, with whatever follows them, a replacement leaves those of the new list, followed by the same
pub renewed-built :
    (list more : List ℕ) (place : ℕ) (new : List ℕ) → Fitting list (entries_of list ++ more) place new →
    renewed (entries_of (with_command list place new)) place (entries_of list ++ more) ≡ entries_of (with_command list place new) ++ more
unfolding renewed pasted overwrite
renewed-built list more place new f =
    let list' : List ℕ = with_command list place new in
    let r = replaced list (entries_of list ++ more) place new f in
    let before = r.before in
    let k : ℕ = length before / 64 + 1 in
    let front : List ℕ = own list before r.command r.after r.commands in
    let p = own-parts list before r.command r.after r.commands in
    let p' = own-parts list' before (head new) r.after r.commands' in
    let long : length front ≡ 2 * k = own-long list before r.command r.after r.commands in
    let kept : last_before place (entries_of list') (length (entries_of list') / 2) ≡ k =
    subst (λ (x : ℕ). last_before x (entries_of list') (length (entries_of list') / 2) ≡ k) r.here
    (kept-own list' before (head new) r.after r.commands') in
    let old : entries_of list ++ more ≡ front ++ (p.later ++ more) = ap (λ (l : List ℕ). l ++ more) p.all ∙ append_assoc front p.later more in
    let fresh : drop (2 * k) (entries_of list') ≡ p'.later = ap (drop (2 * k)) p'.all ∙ drop_at front p'.later (2 * k) long in
    let equal : length p.later ≡ length p'.later =
    let old-long = ap length p.all ∙ length-append front p.later in
    let new-long = ap length p'.all ∙ length-append front p'.later in
    omega (arith, same_entries list (entries_of list ++ more) place new f, old-long, new-long) in
    ap (λ (n : ℕ). pasted (2 * n) (drop (2 * n) (entries_of list')) (entries_of list ++ more)) kept ∙
    (λ i. take (2 * k) (old i) ++ (fresh i ++ drop (length (fresh i)) (drop (2 * k) (old i)))) ∙
    (λ i. take_at front (p.later ++ more) (2 * k) long i ++ (p'.later ++ drop (length p'.later) (drop_at front (p.later ++ more) (2 * k) long i))) ∙
    ap (λ (l : List ℕ). front ++ (p'.later ++ l)) (drop_at p.later more (length p'.later) equal) ∙
    sym (ap (λ (l : List ℕ). l ++ more) p'.all ∙ append_assoc front p'.later more)

-- building again into the entries and what follows them answers 0 and changes nothing
pub rebuilt :
    (list more : List ℕ) → (index_answer list).number ≡ 0 → BuildIs list (entries_of list ++ more) (answer 0 (entry_count list)) (entries_of list ++ more)
unfolding build_out overwrite
rebuilt list more z =
    let w = index-facts list z in
    let es : List ℕ = entries_of list in
    let index = index-whole list w.short w.words w.none in
    let fits = room_fits list (length (es ++ more) / 2) (omega (arith, length-append es more)) in
    record {
      answers = rw (← index) (sym fits);
      writes = rw (← index, fits) (ap (λ (l : List ℕ). es ++ l) (sym (drop_at es more (length es) refl)));
    }
