-- Of refusals in an order the first that holds is answered, and none that holds comes before it. Assumes nothing.
use mathlib.Core.Bool.{Bool, true, false, cond, not, ◌&&◌}
use mathlib.Core.List.{List, [], ◌∷◌, ◌++◌}
use mathlib.Core.Logic.{◌⊎◌, inl, inr, ⊎_elim}
use mathlib.Core.Path.{◌≡◌, refl, sym, ap, subst, ◌∙◌}
use Prim.Native.Nat.{ℕ, zero, suc}
use native.Mathlib.Nat.{suc-ne-zero}
use lib.Dec.{T}
use Rattle.rdp_words.specs.Grounds.{Answer}
use Rattle.rdp_command.specs.Decode.{answer}
use Rattle.rdp_words.proofs.Tests.{both, false_of}
use Rattle.rdp_check.specs.Order.{Ground, ground, first_of, placed, Among, None, First, IsFirst}

-- ---- the first that holds

-- what is found in an order: none that holds, or the first
pub data Found {A : Type 0} (gs : List (Ground A)) (other x : A) : Type 0 where
  none : None gs → x ≡ other → Found gs other x
  some : First x gs → Found gs other x

found-next : {A : Type 0} (g : Ground A) (gs : List (Ground A)) (other x : A) → T (not g.holds) → Found gs other x → Found (g ∷ gs) other x
found-next g gs other x n (none h e) = none (n, h) e
found-next g gs other x n (some f) =
    some (record { before = g ∷ f.before; after = f.after; split = ap (λ (l : List _). g ∷ l) f.split; earlier = (n, f.earlier) })

-- the law of `first_of`
pub found : {A : Type 0} (gs : List (Ground A)) (other : A) → Found gs other (first_of gs other)
found [] other = none tt refl
found (g ∷ gs) other = by g.holds refl (found gs other)
  where
    by : (b : Bool) → g.holds ≡ b → Found gs other (first_of gs other) → Found (g ∷ gs) other (cond b g.gives (first_of gs other))
    by true e f = some (record { before = []; after = gs; split = λ i. ground g.gives (e i) ∷ gs; earlier = tt })
    by false e f = found-next g gs other _ (rw e tt) f

-- ---- one that holds

pub among-left : {A : Type 0} (x : A) (gs hs : List (Ground A)) → Among x gs → Among x (gs ++ hs)
among-left x [] hs m = absurd m
among-left x (g ∷ gs) hs (inl h) = inl h
among-left x (g ∷ gs) hs (inr m) = inr (among-left x gs hs m)

pub among-right : {A : Type 0} (x : A) (gs hs : List (Ground A)) → Among x hs → Among x (gs ++ hs)
among-right x [] hs m = m
among-right x (g ∷ gs) hs m = inr (among-right x gs hs m)

pub among-parts : {A : Type 0} (x : A) (gs hs : List (Ground A)) → Among x (gs ++ hs) → Among x gs ⊎ Among x hs
among-parts x [] hs m = inr m
among-parts x (g ∷ gs) hs (inl h) = inl (inl h)
among-parts x (g ∷ gs) hs (inr m) = ⊎_elim (λ a. inl (inr a)) inr (among-parts x gs hs m)

first-among : {A : Type 0} {x : A} {gs : List (Ground A)} → First x gs → Among x gs
first-among {A} {x} {gs} f =
    subst (Among x) (sym f.split) (among-right x f.before (ground x true ∷ f.after) (inl (tt, refl)))

false-test : (b : Bool) → T (not b) → T b → ⊥
false-test true t u = t
false-test false t u = u

pub none-among : {A : Type 0} (x : A) (gs : List (Ground A)) → None gs → Among x gs → ⊥
none-among x [] n m = m
none-among x (g ∷ gs) n (inl h) = false-test g.holds n.0 h.0
none-among x (g ∷ gs) n (inr m) = none-among x gs n.1 m

pub none-parts : {A : Type 0} (gs hs : List (Ground A)) → None (gs ++ hs) → None gs × None hs
none-parts [] hs n = (tt, n)
none-parts (g ∷ gs) hs n = let r = none-parts gs hs n.1 in ((n.0, r.0), r.1)

pub none_both : {A : Type 0} (gs hs : List (Ground A)) → None gs → None hs → None (gs ++ hs)
none_both [] hs m n = n
none_both (g ∷ gs) hs m n = (m.0, none_both gs hs m.1 n)

-- where none holds, the other; and where the other comes out that none gives, none holds
pub none_first : {A : Type 0} (gs : List (Ground A)) (other : A) → None gs → first_of gs other ≡ other
none_first [] other n = refl
none_first (g ∷ gs) other n = rw (false_of g.holds n.0) (none_first gs other n.1)

pub first-none : {A : Type 0} (gs : List (Ground A)) (other : A) → (Among other gs → ⊥) → first_of gs other ≡ other → None gs
first-none gs other known e = by (found gs other)
  where
    by : Found gs other (first_of gs other) → None gs
    by (none h z) = h
    by (some f) = absurd (known (subst (λ x. Among x gs) e (first-among f)))

-- ---- at a place

pub among-placed : (n p : ℕ) (gs : List (Ground ℕ)) → Among n gs → Among (answer n p) (placed p gs)
among-placed n p [] m = absurd m
among-placed n p (g ∷ gs) (inl h) = inl (h.0, ap (λ (k : ℕ). answer k p) h.1)
among-placed n p (g ∷ gs) (inr m) = inr (among-placed n p gs m)

pub placed-among : (n p at : ℕ) (gs : List (Ground ℕ)) → Among (answer n p) (placed at gs) → Among n gs × (at ≡ p)
placed-among n p at [] m = absurd m
placed-among n p at (g ∷ gs) (inl h) = (inl (h.0, ap (λ (a : Answer). a.number) h.1), ap (λ (a : Answer). a.place) h.1)
placed-among n p at (g ∷ gs) (inr m) = let r = placed-among n p at gs m in (inr r.0, r.1)

-- a number at a place; where it is 0, the next answer
abbrev pub refused_at : ℕ → ℕ → Answer → Answer
refused_at zero place next = next
refused_at (suc refusal) place next = answer (suc refusal) place

pub refused-some : (g place : ℕ) (next : Answer) → (g ≡ 0 → ⊥) → refused_at g place next ≡ answer g place
refused-some zero place next h = absurd (h refl)
refused-some (suc g) place next h = refl

pub refused_none : (g place : ℕ) (next : Answer) → (refused_at g place next).number ≡ 0 → (g ≡ 0) × (next.number ≡ 0)
refused_none zero place next e = (refl, e)
refused_none (suc g) place next e = absurd (suc-ne-zero g e)

-- the first of grounds at a place is the first by their numbers; where none of them holds, the first of those after them
pub placed_first :
    (place : ℕ) (more : List (Ground Answer)) (other : Answer) (gs : List (Ground ℕ)) → (Among 0 gs → ⊥) →
    first_of (placed place gs ++ more) other ≡ refused_at (first_of gs 0) place (first_of more other)
placed_first place more other [] known = refl
placed_first place more other (g ∷ gs) known = by g.holds refl (placed_first place more other gs (λ m. known (inr m)))
  where
    by :
        (b : Bool) → g.holds ≡ b → first_of (placed place gs ++ more) other ≡ refused_at (first_of gs 0) place (first_of more other) →
        cond b (answer g.gives place) (first_of (placed place gs ++ more) other) ≡ refused_at (cond b g.gives (first_of gs 0)) place (first_of more other)
    by true h f = sym (refused-some g.gives place (first_of more other) (λ z. known (inl (rw h tt, z))))
    by false h f = f

-- ---- what numbers there are

-- a test passes for all that they give
abbrev pub all_give : {A : Type 0} → (A → Bool) → List (Ground A) → Bool
all_give f [] = true
all_give f (g ∷ gs) = f g.gives && all_give f gs

pub among-gives : {A : Type 0} (f : A → Bool) (x : A) (gs : List (Ground A)) → T (all_give f gs) → Among x gs → T (f x)
among-gives f x [] t m = absurd m
among-gives f x (g ∷ gs) t (inl h) = subst (λ y. T (f y)) h.1 (both (f g.gives) _ t).0
among-gives f x (g ∷ gs) t (inr m) = among-gives f x gs (both (f g.gives) _ t).1 m

pub first_gives : {A : Type 0} (f : A → Bool) (gs : List (Ground A)) (other : A) → T (all_give f gs) → T (f other) → T (f (first_of gs other))
first_gives f [] other t u = u
first_gives f (g ∷ gs) other t u =
    let r = both (f g.gives) _ t in
    by g.holds r.0 (first_gives f gs other r.1 u)
  where
    by : (b : Bool) → T (f g.gives) → T (f (first_of gs other)) → T (f (cond b g.gives (first_of gs other)))
    by true x y = x
    by false x y = y

-- ---- an answer

-- an order of exactly the refusals that may hold, none of number 0, is answered by its first
pub answered :
    (Holds : ℕ → ℕ → Type 0) (order : List (Ground Answer)) (words : ℕ) →
    ((n p : ℕ) → Holds n p → Among (answer n p) order) → ((n p : ℕ) → Among (answer n p) order → Holds n p) → ((p : ℕ) → Holds 0 p → ⊥) →
    (a : Answer) → Found order (answer 0 words) a → IsFirst Holds order words a.number a.place
answered Holds order words to from known a (none h e) =
    record {
      listed = to;
      only = from;
      accepted = λ z. (ap (λ (x : Answer). x.place) e, λ n p m. none-among (answer n p) order h (to n p m));
      refused = λ ne. absurd (ne (ap (λ (x : Answer). x.number) e));
      first = λ ne. absurd (ne (ap (λ (x : Answer). x.number) e));
    }
answered Holds order words to from known a (some f) =
    let holds : Holds a.number a.place = from a.number a.place (first-among f) in
    record {
      listed = to;
      only = from;
      accepted = λ z. absurd (known a.place (subst (λ (n : ℕ). Holds n a.place) z holds));
      refused = λ ne. holds;
      first = λ ne. f;
    }

-- ---- an order after another

first-append : {A : Type 0} (gs hs : List (Ground A)) (other : A) → first_of (gs ++ hs) other ≡ first_of gs (first_of hs other)
first-append [] hs other = refl
first-append (g ∷ gs) hs other = ap (cond g.holds g.gives) (first-append gs hs other)

none_before : {A : Type 0} (x : A) (before after : List (Ground A)) (other : A) → None before → first_of (before ++ ground x true ∷ after) other ≡ x
none_before x [] after other n = refl
none_before x (g ∷ before) after other n = rw (false_of g.holds n.0) (none_before x before after other n.1)

first-is : {A : Type 0} {x : A} {gs : List (Ground A)} → First x gs → (other : A) → first_of gs other ≡ x
first-is {A} {x} {gs} f other = ap (λ (l : List (Ground A)). first_of l other) f.split ∙ none_before x f.before f.after other f.earlier

not-held : (b : Bool) → (T b → ⊥) → T (not b)
not-held true h = h tt
not-held false h = tt

no-among : {A : Type 0} (gs : List (Ground A)) → ((x : A) → Among x gs → ⊥) → None gs
no-among [] h = tt
no-among (g ∷ gs) h = (not-held g.holds (λ t. h g.gives (inl (t, refl))), no-among gs (λ x m. h x (inr m)))

-- an order whose first is known, and what comes after it
module _ {Holds : ℕ → ℕ → Type 0} {gs : List (Ground Answer)} {words number place : ℕ} (is : IsFirst Holds gs words number place)
    (hs : List (Ground Answer)) (other : Answer) where
  pub then-refused : (number ≡ 0 → ⊥) → first_of (gs ++ hs) other ≡ answer number place
  then-refused ne = first-append gs hs other ∙ first-is (is.first ne) (first_of hs other)

  pub then-accepted : number ≡ 0 → first_of (gs ++ hs) other ≡ first_of hs other
  then-accepted e =
      first-append gs hs other ∙
      none_first gs (first_of hs other) (no-among gs (λ x m. (is.accepted e).1 x.number x.place (is.only x.number x.place m)))
