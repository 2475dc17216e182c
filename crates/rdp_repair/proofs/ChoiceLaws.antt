-- `chosen` is an option that serves, costs no more than any that serves, and is the first of those that cost least.
-- Assumes nothing.
use Rattle.std.proofs.Common.{◌≡◌, refl, ap, ◌∙◌, subst, Bool, true, false, cond, ℕ, zero, suc, ◌<◌, ◌≤◌, lt_of_not-le, le_refl, arith, eqb, leb, eqb-true, leb-true, leb-false}
use Rattle.std.proofs.Math.Decide.{dec_le}
use borrow.Author.Tests.{eqb-false}
use Rattle.rdp_hazards.specs.Hazards.{required_of}
use Rattle.rdp_repair.specs.Plan.{wait_of, sync_at}
use Rattle.rdp_repair.specs.Best.{Choice, cleared_by, total_with, choice_of, prefer, chosen}
use Rattle.rdp_repair.proofs.SyncLaws.{pipe-serves}
use Rattle.rdp_hazards.proofs.HazardLaws.{next_small}

-- a choice that is right among the options from k on
pub record Right (n : ℕ) (f : ℕ → ℕ) (m k : ℕ) (ch : Choice) : Type 0 where
  pub serves : required_of (cleared_by ch.option m) n ≡ 0
  pub made : ch ≡ choice_of n f m ch.option
  pub within : ch.option ≤ 3
  pub least : (b : ℕ) → k ≤ b → required_of (cleared_by b m) n ≡ 0 → ch.total ≤ total_with n f m b
  pub first : (b : ℕ) → k ≤ b → required_of (cleared_by b m) n ≡ 0 → total_with n f m b ≡ ch.total → ch.option ≤ b

-- what holds of a and of every larger number holds of every number from a on
from-here : (P : ℕ → Type 0) (a : ℕ) → P a → ((b : ℕ) → suc a ≤ b → P b) → (b : ℕ) → a ≤ b → P b
from-here P a here more b h = elim (dec_le (suc a) b) [ yes g ↦ more b g | no g ↦ subst P (omega (arith, lt_of_not-le g)) here ]

module _ (n : ℕ) (f : ℕ → ℕ) (m : ℕ) where
  right-pipe : Right n f m 3 (choice_of n f m 3)
  unfolding cleared_by sync_at total_with wait_of choice_of
  right-pipe = record {
    serves = pipe-serves 0 m n;
    made = refl;
    within = omega arith;
    least = any-pipe (λ (b : ℕ). required_of (cleared_by b m) n ≡ 0 → total_with n f m 3 ≤ total_with n f m b) (λ b _. le_refl _);
    first = λ b h _ _. h;
  }
    where
      any-pipe : (P : ℕ → Type 0) → ((b : ℕ) → P (suc (suc (suc b)))) → (b : ℕ) → 3 ≤ b → P b
      any-pipe P p zero h = absurd (omega arith)
      any-pipe P p (suc zero) h = absurd (omega arith)
      any-pipe P p (suc (suc zero)) h = absurd (omega arith)
      any-pipe P p (suc (suc (suc b))) h = p b

  module _ (a : ℕ) (other : Choice) (r : Right n f m (suc a) other) (small : a ≤ 3) where
    -- the option serves and costs no more
    taken : required_of (cleared_by a m) n ≡ 0 → total_with n f m a ≤ other.total → Right n f m a (choice_of n f m a)
    unfolding choice_of
    taken s le = record {
      serves = s;
      made = refl;
      within = small;
      least = from-here (λ (b : ℕ). required_of (cleared_by b m) n ≡ 0 → total_with n f m a ≤ total_with n f m b) a (λ _. le_refl _) (λ b h t. omega (arith, r.least b h t));
      first = λ b h _ _. h;
    }

    -- it does not serve
    unfit : (required_of (cleared_by a m) n ≡ 0 → ⊥) → Right n f m a other
    unfit s = record {
      serves = r.serves;
      made = r.made;
      within = r.within;
      least = from-here (λ (b : ℕ). required_of (cleared_by b m) n ≡ 0 → other.total ≤ total_with n f m b) a (λ t. absurd (s t)) r.least;
      first = from-here (λ (b : ℕ). required_of (cleared_by b m) n ≡ 0 → total_with n f m b ≡ other.total → other.option ≤ b) a (λ t. absurd (s t)) r.first;
    }

    -- it costs more
    dearer : other.total < total_with n f m a → Right n f m a other
    dearer lt = record {
      serves = r.serves;
      made = r.made;
      within = r.within;
      least = from-here (λ (b : ℕ). required_of (cleared_by b m) n ≡ 0 → other.total ≤ total_with n f m b) a (λ _. omega arith) r.least;
      first = from-here (λ (b : ℕ). required_of (cleared_by b m) n ≡ 0 → total_with n f m b ≡ other.total → other.option ≤ b) a (λ _ e. absurd (omega arith)) r.first;
    }

    right-prefer : Right n f m a (prefer n f m a other)
    unfolding prefer
    right-prefer = by-required (eqb (required_of (cleared_by a m) n) 0) refl
      where
        by_total : (t : Bool) → leb (total_with n f m a) other.total ≡ t → required_of (cleared_by a m) n ≡ 0
            → Right n f m a (cond t (choice_of n f m a) other)
        by_total true e s = taken s (leb-true _ _ e)
        by_total false e s = dearer (leb-false _ _ e)

        by-required : (t : Bool) → eqb (required_of (cleared_by a m) n) 0 ≡ t
            → Right n f m a (cond t (cond (leb (total_with n f m a) other.total) (choice_of n f m a) other) other)
        by-required true e = by_total (leb (total_with n f m a) other.total) refl (eqb-true _ _ e)
        by-required false e = unfit (eqb-false _ _ e)

  pub right-chosen : Right n f m 0 (chosen n f m)
  unfolding chosen
  right-chosen = right-prefer 0 _ (right-prefer 1 _ (right-prefer 2 _ right-pipe (omega arith)) (omega arith)) (omega arith)

  -- the option and the next hazards are small
  pub option-small : (ch : Choice) → ch ≡ chosen n f m → ch.option ≤ 3
  option-small ch e = rw (← e) at right-chosen.within

  pub next-hazards-small : (ch : Choice) → ch ≡ chosen n f m → ch.next < 16
  unfolding choice_of
  next-hazards-small ch e =
      omega (arith, ap (λ (h : Choice). h.next) (e ∙ right-chosen.made), next_small (cleared_by (chosen n f m).option m) n)
