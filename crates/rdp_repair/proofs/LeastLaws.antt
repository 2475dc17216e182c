-- The planned list is made by inserting, passes, and costs least; its plan is the first of those that cost least.
-- Assumes nothing.
use Rattle.std.proofs.Common.{◌≡◌, refl, sym, ap, ◌∙◌, subst, List, [], ◌∷◌, map, ℕ, zero, suc, ◌+◌, ◌≤◌, lt_of_not-le, arith, length}
use Rattle.std.proofs.Math.Decide.{dec_le}
use Rattle.std.proofs.Math.ListN.{length-map}
use Rattle.rdp_words.specs.Lengths.{first_number}
use Rattle.rdp_hazards.specs.Hazards.{next_of, required_of}
use Rattle.rdp_repair.specs.Inserted.{Inserted, end, keep, insert}
use Rattle.rdp_hazards.specs.Syncs.{Sync, sync_wait, sync_word}
use Rattle.rdp_repair.specs.Plan.{sync_at, wait_of, with_option, applied, cycles_of, TiesFirst, same, next, less}
use Rattle.rdp_repair.specs.Best.{Choice, cleared_by, total_with, choice_of, chosen, best, plan, planned}
use Rattle.rdp_repair.proofs.SyncLaws.{sync-number, sync-requires, by-option, two-as-one, wait-some}
use Rattle.rdp_repair.proofs.ChoiceLaws.{Right, right-chosen}

-- no sync is missing along the commands from hazards m on
abbrev pub Passes : ℕ → List (List ℕ) → Type 0
Passes m [] = Unit {0}
Passes m (c ∷ cs) = (required_of m (first_number c) ≡ 0) × Passes (next_of m (first_number c)) cs

-- ---- one command with an option before it

with-inserted : (a : ℕ) {c : List ℕ} {cs ds : List (List ℕ)} {k : ℕ} → Inserted cs ds k → Inserted (c ∷ cs) (with_option a c ds) (wait_of a + k)
unfolding with_option wait_of
with-inserted zero {c} {cs} {ds} {k} h = subst (λ (j : ℕ). Inserted (c ∷ cs) (c ∷ ds) j) (omega arith) (keep h)
with-inserted (suc a) h = insert (sync_at a) (keep h)

pub passes_at : (ds : List (List ℕ)) {j k : ℕ} → j ≡ k → Passes j ds → Passes k ds
passes_at ds e = subst (λ (k : ℕ). Passes k ds) e

-- command c misses no sync after option a at hazards m, and the rest passes
abbrev PassesAfter : ℕ → ℕ → List ℕ → List (List ℕ) → Type 0
PassesAfter m a c ds = Passes (cleared_by a m) (c ∷ ds)

passes-sync : (a m : ℕ) (ds : List (List ℕ)) → Passes m (sync_word (sync_at a) ∷ ds) → Passes (cleared_by (suc a) m) ds
unfolding cleared_by
passes-sync a m ds h = passes_at ds (ap (next_of m) (sync-number (sync_at a))) h.1

with-passes : (a m : ℕ) (c : List ℕ) (ds : List (List ℕ)) → PassesAfter m a c ds → Passes m (with_option a c ds)
unfolding with_option cleared_by
with-passes zero m c ds h = h
with-passes (suc a) m c ds h =
    let s = sync_at a in
    (ap (required_of m) (sync-number s) ∙ sync-requires s m, passes_at (c ∷ ds) (ap (next_of m) (sym (sync-number s))) h)

passes-with : (a m : ℕ) (c : List ℕ) (ds : List (List ℕ)) → Passes m (with_option a c ds) → PassesAfter m a c ds
unfolding with_option cleared_by
passes-with zero m c ds h = h
passes-with (suc a) m c ds h = passes-sync a m (c ∷ ds) h

-- ---- plans

pub applied-inserted : (p : List ℕ) (cs : List (List ℕ)) → length p ≡ length cs → Inserted cs (applied p cs) (cycles_of p)
unfolding applied cycles_of
applied-inserted [] [] e = end
applied-inserted [] (c ∷ cs) e = absurd (omega arith)
applied-inserted (a ∷ p) [] e = absurd (omega arith)
applied-inserted (a ∷ p) (c ∷ cs) e = with-inserted a (applied-inserted p cs (omega arith))

pub length-plan : (ns : List ℕ) (m : ℕ) → length (plan ns m) ≡ length ns
unfolding plan
length-plan [] m = refl
length-plan (n ∷ ns) m = ap suc (length-plan ns (chosen n (best ns) m).next)

pub right : (n : ℕ) (ns : List ℕ) (m : ℕ) → Right n (best ns) m 0 (chosen n (best ns) m)
right n ns m = right-chosen n (best ns) m

-- a choice's hazards and total are those of its option
pub chosen-next : (n : ℕ) (ns : List ℕ) (m : ℕ) → (chosen n (best ns) m).next ≡ next_of (cleared_by (chosen n (best ns) m).option m) n
unfolding choice_of
chosen-next n ns m = ap (λ (h : Choice). h.next) (right n ns m).made

pub chosen-total : (n : ℕ) (ns : List ℕ) (m : ℕ)
    → (chosen n (best ns) m).total ≡ best ns (next_of (cleared_by (chosen n (best ns) m).option m) n) + wait_of (chosen n (best ns) m).option
unfolding choice_of total_with
chosen-total n ns m = ap (λ (h : Choice). h.total) (right n ns m).made

pub cycles-plan : (ns : List ℕ) (m : ℕ) → cycles_of (plan ns m) ≡ best ns m
unfolding plan cycles_of best
cycles-plan [] m = refl
cycles-plan (n ∷ ns) m =
    omega (arith, chosen-total n ns m, cycles-plan ns (chosen n (best ns) m).next, ap (best ns) (chosen-next n ns m))

-- the planned list is made by inserting, and what it inserts waits as long as the best total says
pub planned-inserted : (cs : List (List ℕ)) → Inserted cs (planned cs) (best (map first_number cs) 0)
unfolding planned
planned-inserted cs =
    let ns : List ℕ = map first_number cs in
    subst (λ (k : ℕ). Inserted cs (applied (plan ns 0) cs) k) (cycles-plan ns 0)
    (applied-inserted (plan ns 0) cs (length-plan ns 0 ∙ length-map cs first_number))

-- no sync is missing in it
plan-passes : (cs : List (List ℕ)) (m : ℕ) → Passes m (applied (plan (map first_number cs) m) cs)
unfolding plan applied
plan-passes [] m = tt
plan-passes (c ∷ cs) m =
    let ns : List ℕ = map first_number cs in
    let ch : Choice = chosen (first_number c) (best ns) m in
    let rest : List (List ℕ) = applied (plan ns ch.next) cs in
    with-passes ch.option m c rest
    ((right (first_number c) ns m).serves, passes_at rest (chosen-next (first_number c) ns m) (plan-passes cs ch.next))

pub planned-passes : (cs : List (List ℕ)) → Passes 0 (planned cs)
unfolding planned
planned-passes cs = plan-passes cs 0

-- ---- least

-- option a before the list saves no more than it waits
pub save : (ns : List ℕ) (m a : ℕ) → best ns m ≤ wait_of a + best ns (cleared_by a m)
unfolding best total_with
save [] m a = omega arith
save (n ∷ ns) m a =
    let b : ℕ = (chosen n (best ns) (cleared_by a m)).option in
    let d = two-as-one a b m in
    let bound = (right n ns m).least d.0 (omega arith) (subst (λ (k : ℕ). required_of k n ≡ 0) d.1 (right n ns (cleared_by a m)).serves) in
    let tot : best (n ∷ ns) (cleared_by a m) ≡ best ns (next_of (cleared_by d.0 m) n) + wait_of b =
    chosen-total n ns (cleared_by a m) ∙ ap (λ (k : ℕ). best ns (next_of k n) + wait_of b) d.1
    in
    omega (arith, bound, tot, d.2)

-- any list made by inserting that passes waits at least as long
pub least-from : {cs ds : List (List ℕ)} {k : ℕ} (m : ℕ) → Inserted cs ds k → Passes m ds → best (map first_number cs) m ≤ k
unfolding best total_with cleared_by wait_of
least-from m end h = omega arith
least-from m (keep {c = c} {cs = cs} s) h =
    omega (arith, (right (first_number c) (map first_number cs) m).least 0 (omega arith) h.0, least-from (next_of m (first_number c)) s h.1)
least-from {k = k} m (insert y {cs = cs} {ds = ds} {k = j} s) h =
    by-option (λ (x : Sync). Passes m (sync_word x ∷ ds) → best (map first_number cs) m ≤ sync_wait x + j)
    (λ a g. omega (arith, save (map first_number cs) m (suc a), least-from (cleared_by (suc a) m) s (passes-sync a m ds g)))
    y h

pub planned-least : {cs ds : List (List ℕ)} {k : ℕ} → Inserted cs ds k → Passes 0 ds → best (map first_number cs) 0 ≤ k
planned-least = least-from 0

-- ---- ties

-- of the plans that pass and cost least, this is the first
first-from : (cs : List (List ℕ)) (m : ℕ) (q : List ℕ) → length q ≡ length cs → Passes m (applied q cs) → cycles_of q ≡ best (map first_number cs) m
    → TiesFirst (plan (map first_number cs) m) q
unfolding plan applied cycles_of best total_with
first-from [] m [] l h e = same
first-from [] m (b ∷ q) l h e = absurd (omega arith)
first-from (c ∷ cs) m [] l h e = absurd (omega arith)
first-from (c ∷ cs) m (b ∷ q) l h e =
    let n : ℕ = first_number c in
    let ns : List ℕ = map first_number cs in
    let ch : Choice = chosen n (best ns) m in
    let k : ℕ = next_of (cleared_by b m) n in
    let g = passes-with b m c (applied q cs) h in
    let l' : length q ≡ length cs = omega arith in
    let low : best ns k ≤ cycles_of q = least-from k (applied-inserted q cs l') g.1 in
    let up : ch.total ≤ best ns k + wait_of b = (right n ns m).least b (omega arith) g.0 in
    let first : ch.option ≤ b = (right n ns m).first b (omega arith) g.0 (omega arith) in
    let rest : TiesFirst (plan ns k) q = first-from cs k q l' g.1 (omega arith) in
    elim (dec_le (suc ch.option) b) [
      | yes lt ↦ less lt
      | no ge ↦
          let e : b ≡ ch.option = omega (arith, lt_of_not-le ge) in
          subst (λ (j : ℕ). TiesFirst (ch.option ∷ plan ns j) (b ∷ q)) (sym (chosen-next n ns m))
          (subst (λ (d : ℕ). TiesFirst (d ∷ plan ns (next_of (cleared_by d m) n)) (b ∷ q)) e (next rest))
    ]

pub plan-first : (cs : List (List ℕ)) (q : List ℕ) → length q ≡ length cs → Passes 0 (applied q cs) → cycles_of q ≡ best (map first_number cs) 0
    → TiesFirst (plan (map first_number cs) 0) q
plan-first cs = first-from cs 0

-- ---- a list that costs least has at most one sync before each command, and none at the end

-- an option for each command makes the list
pub record Single (cs ds : List (List ℕ)) (k : ℕ) : Type 0 where
  pub options : List ℕ
  pub one_each : length options ≡ length cs
  pub makes : applied options cs ≡ ds
  pub waits : cycles_of options ≡ k

single-keep : {c : List ℕ} {cs ds : List (List ℕ)} {k : ℕ} → Single cs ds k → Single (c ∷ cs) (c ∷ ds) k
unfolding applied cycles_of with_option wait_of
single-keep {c} r = record {
  options = 0 ∷ r.options;
  one_each = ap suc r.one_each;
  makes = ap (λ (x : List (List ℕ)). c ∷ x) r.makes;
  waits = omega (arith, r.waits);
}

single-insert : (a : ℕ) {c : List ℕ} {cs ds : List (List ℕ)} {k : ℕ} → Single cs ds k → Single (c ∷ cs) (sync_word (sync_at a) ∷ c ∷ ds) (sync_wait (sync_at a) + k)
unfolding applied cycles_of with_option wait_of
single-insert a {c} {ds} r = record {
  options = suc a ∷ r.options;
  one_each = ap suc r.one_each;
  makes = ap (λ (x : List (List ℕ)). sync_word (sync_at a) ∷ c ∷ x) r.makes;
  waits = omega (arith, r.waits);
}

single-from : {cs ds : List (List ℕ)} {k : ℕ} (m : ℕ) → Inserted cs ds k → Passes m ds → k ≡ best (map first_number cs) m → Single cs ds k
unfolding best total_with cleared_by wait_of applied cycles_of
single-from m end h e = record { options = []; one_each = refl; makes = refl; waits = refl }
single-from m (keep {c = c} {cs = cs} s) h e =
    let ns : List ℕ = map first_number cs in
    let n : ℕ = first_number c in
    single-keep (single-from (next_of m n) s h.1
    (omega (arith, (right n ns m).least 0 (omega arith) h.0, least-from (next_of m n) s h.1)))
single-from m (insert y end) h e = absurd (omega (arith, wait-some y))
single-from m (insert y (keep {c = c} {cs = cs} {ds = ds} {k = k} s)) h e =
    let ns : List ℕ = map first_number cs in
    let n : ℕ = first_number c in
    by-option (λ (x : Sync). Passes m (sync_word x ∷ c ∷ ds) → sync_wait x + k ≡ best (n ∷ ns) m → Single (c ∷ cs) (sync_word x ∷ c ∷ ds) (sync_wait x + k))
    (λ a p q.
    let j : ℕ = next_of (cleared_by (suc a) m) n in
    let g : Passes (cleared_by (suc a) m) (c ∷ ds) = passes-sync a m (c ∷ ds) p in
    single-insert a (single-from j s g.1 (omega (arith, (right n ns m).least (suc a) (omega arith) g.0, least-from j s g.1))))
    y h e
single-from m (insert y (insert z {cs = cs} {ds = ds} {k = k} s)) h e =
    let ns : List ℕ = map first_number cs in
    absurd
    (by-option (λ (x : Sync). Passes m (sync_word x ∷ sync_word z ∷ ds) → sync_wait x + (sync_wait z + k) ≡ best ns m → ⊥)
    (λ a.
    by-option (λ (x : Sync). Passes m (sync_word (sync_at a) ∷ sync_word x ∷ ds) → sync_wait (sync_at a) + (sync_wait x + k) ≡ best ns m → ⊥)
    (λ b p q.
    let g = passes-sync b (cleared_by (suc a) m) ds (passes-sync a m (sync_word (sync_at b) ∷ ds) p) in
    let d = two-as-one (suc a) (suc b) m in
    omega
    (arith, save ns m d.0, least-from (cleared_by d.0 m) s (passes_at ds d.1 g), d.2, wait-some (sync_at a), wait-some (sync_at b)))
    z)
    y h e)

pub least-single : {cs ds : List (List ℕ)} {k : ℕ} → Inserted cs ds k → Passes 0 ds → k ≡ best (map first_number cs) 0 → Single cs ds k
least-single = single-from 0

-- of two plans that tie so with two that are equal to them the other way round: they are equal
both-first : {p q r s : List ℕ} → TiesFirst p q → TiesFirst r s → q ≡ r → p ≡ s → p ≡ q
both-first same g e f = refl
both-first (next {a = a} {p = p} {q = q} x) same e f = f ∙ sym e
both-first (next {a = a} {p = p} {q = q} x) (next {a = b} {p = r} {q = s} y) e f =
    let u : q ≡ r = cc in
    let v : p ≡ s = cc in
    ap (λ (l : List ℕ). a ∷ l) (both-first x y u v)
both-first (next {a = a} x) (less {a = b} {b = d} h) e f =
    let u : a ≡ b = cc in
    let v : a ≡ d = cc in
    absurd (omega arith)
both-first (less {a = a} {b = b} h) same e f = f ∙ sym e
both-first (less {a = a} {b = b} h) (next {a = c} y) e f =
    let u : b ≡ c = cc in
    let v : a ≡ c = cc in
    absurd (omega arith)
both-first (less {a = a} {b = b} h) (less {a = c} {b = d} k) e f =
    let u : b ≡ c = cc in
    let v : a ≡ d = cc in
    absurd (omega arith)

-- only one plan is first: two that each stand before the other or are equal are equal
pub first-unique : {p q : List ℕ} → TiesFirst p q → TiesFirst q p → p ≡ q
first-unique f g = both-first f g refl refl
