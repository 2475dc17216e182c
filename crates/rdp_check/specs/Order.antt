-- Document 01, "Grounds" and their order: refusals in an order are a list, and of those that hold the first is answered.
use Rattle.std.specs.Prelude.{ℕ, Bool, true, cond, not, List, [], ◌∷◌, ◌++◌, ◌⊎◌, ◌≡◌, T}
use Rattle.rdp_command.specs.Decode.{answer}
use Rattle.rdp_words.specs.Grounds.{Answer}

-- a ground of refusal: what it gives (its number, or number and place), and whether it holds
pub record Ground (A : Type 0) : Type 0 where
  pub gives : A
  pub holds : Bool

abbrev pub ground : {A : Type 0} → A → Bool → Ground A
ground gives holds = record { gives = gives; holds = holds }

-- the first in the order that holds; where none holds, the other
abbrev pub first_of : {A : Type 0} → List (Ground A) → A → A
first_of [] other = other
first_of (g ∷ gs) other = cond g.holds g.gives (first_of gs other)

-- grounds that give a number, at a place
abbrev pub placed : ℕ → List (Ground ℕ) → List (Ground Answer)
placed place [] = []
placed place (g ∷ gs) = ground (answer g.gives place) g.holds ∷ placed place gs

-- ---- what it is to be the first

-- x is what one of them gives that holds
abbrev pub Among : {A : Type 0} → A → List (Ground A) → Type 0
Among x [] = ⊥
Among x (g ∷ gs) = (T g.holds × (g.gives ≡ x)) ⊎ Among x gs

-- none of them holds
abbrev pub None : {A : Type 0} → List (Ground A) → Type 0
None [] = Unit {0}
None (g ∷ gs) = T (not g.holds) × None gs

-- x is what the first gives that holds: none before it in the order does
pub record First {A : Type 0} (x : A) (gs : List (Ground A)) : Type 0 where
  pub before : List (Ground A)
  pub after : List (Ground A)
  pub split : gs ≡ before ++ ground x true ∷ after
  pub earlier : None before

-- a number and a place that answer refusals, by what it is for refusal n to hold at place p, and by an order that lists exactly those that hold: 0 and so
-- many words exactly where none holds, and else the first that holds
pub record IsFirst (Holds : ℕ → ℕ → Type 0) (order : List (Ground Answer)) (words number place : ℕ) : Type 0 where
  pub listed : (n p : ℕ) → Holds n p → Among (answer n p) order
  pub only : (n p : ℕ) → Among (answer n p) order → Holds n p
  pub accepted : number ≡ 0 → (place ≡ words) × ((n p : ℕ) → Holds n p → ⊥)
  pub refused : (number ≡ 0 → ⊥) → Holds number place
  pub first : (number ≡ 0 → ⊥) → First (answer number place) order
