-- Laws of kept rows and pixels. Assumes nothing.
use mathlib.Core.Path.{◌≡◌, sym, ◌∙◌}
use mathlib.Core.Bool.{Bool, true, false, cond, ◌&&◌, false≢true}
use Prim.Native.Nat.{ℕ, ◌+◌, ◌*◌, ◌%◌, ◌≤◌, ◌<◌}
use native.Mathlib.Omega.{arith}
use borrow.Author.Tests.{eqb-true, eqb-false, eq-eqb}
use Rattle.rdp_command.specs.declared.Scissor.{Scissor}
use Rattle.rdp_words.proofs.Tests.{by-test}
use Rattle.rdp_pixels.specs.Overlay.{within}
use Rattle.rdp_pixels.specs.Kept.{kept, line_kept, row_kept, kept_from}
use Rattle.rdp_pixels.proofs.BoolLaws.{and_is, and-true-of}
use Rattle.rdp_pixels.proofs.OverlayLaws.{within-true, within-is}

-- ---- a kept row

module _ (s : Scissor) (y : ℕ) where
  pub row-kept-is : row_kept s y ≡ true → s.«field» ≡ true → y % 2 ≡ cond s.odd 1 0
  unfolding line_kept
  row-kept-is e h = eqb-true (y % 2) (cond s.odd 1 0) (rw h at e)

  pub row-kept-true : (s.«field» ≡ true → y % 2 ≡ cond s.odd 1 0) → row_kept s y ≡ true
  unfolding line_kept
  row-kept-true h = by-test s.«field» (λ e. rw e (eq-eqb (y % 2) (cond s.odd 1 0) (h e))) (λ e. rw e)

-- of two rows in a row, one is kept
pub row-kept-next : (s : Scissor) (y : ℕ) → row_kept s y ≡ false → row_kept s (y + 1) ≡ true
unfolding line_kept
row-kept-next s y e =
    row-kept-true s (y + 1)
    (λ h. next s.odd (eqb-false (y % 2) (cond s.odd 1 0) (rw h at e)))
  where
    next : (o : Bool) → (y % 2 ≡ cond o 1 0 → ⊥) → (y + 1) % 2 ≡ cond o 1 0
    next true ne = omega (arith, ne)
    next false ne = omega (arith, ne)

-- the first kept row from one on
module _ (s : Scissor) (y : ℕ) where
  pub from-near : (y ≤ kept_from s.«field» s.odd y) × (kept_from s.«field» s.odd y ≤ y + 1)
  unfolding kept_from
  from-near = by-test (row_kept s y) (λ e. rw e (omega arith, omega arith)) (λ e. rw e (omega arith, omega arith))

  pub from_itself : row_kept s y ≡ true → kept_from s.«field» s.odd y ≡ y
  unfolding kept_from
  from_itself e = rw e

  pub from-kept : row_kept s (kept_from s.«field» s.odd y) ≡ true
  unfolding kept_from
  from-kept = by-test (row_kept s y) (λ e. rw e e) (λ e. rw e (row-kept-next s y e))

  pub from-least : (k : ℕ) → y ≤ k → row_kept s k ≡ true → kept_from s.«field» s.odd y ≤ k
  unfolding kept_from
  from-least k h kept-k =
      by-test (row_kept s y) (λ e. rw e h)
      (λ e. rw e
      (let apart : y ≡ k → ⊥ = λ same. false≢true (sym e ∙ rw (← same) at kept-k) in
      omega (arith, apart)))

-- ---- a kept pixel

-- pixel (x, y) inside the scissor
pub record InScissor (s : Scissor) (x y : ℕ) : Type 0 where
  pub across : (s.upper_left.x ≤ 4 * x) × (4 * x < s.lower_right.x)
  pub down : (s.upper_left.y ≤ 4 * y) × (4 * y < s.lower_right.y)
  pub row : row_kept s y ≡ true

module _ (s : Scissor) (x y : ℕ) where
  abbrev across : Bool
  across = within s.upper_left.x s.lower_right.x (4 * x)

  abbrev down : Bool
  down = within s.upper_left.y s.lower_right.y (4 * y)

  pub kept-is : kept s x y ≡ true → InScissor s x y
  unfolding kept
  kept-is e =
      let parts = and_is (across && down) (row_kept s y) e in
      let inside = and_is across down parts.0 in
      record {
        across = within-is s.upper_left.x s.lower_right.x (4 * x) inside.0;
        down = within-is s.upper_left.y s.lower_right.y (4 * y) inside.1;
        row = parts.1;
      }

  pub kept-true : InScissor s x y → kept s x y ≡ true
  unfolding kept
  kept-true k =
      and-true-of (across && down) (row_kept s y)
      (and-true-of across down
      (within-true s.upper_left.x s.lower_right.x (4 * x) k.across.0 k.across.1)
      (within-true s.upper_left.y s.lower_right.y (4 * y) k.down.0 k.down.1))
      k.row
