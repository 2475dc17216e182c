-- The moves of a load and of a copy rectangle are those of a grid. Assumes nothing.
use mathlib.Core.Path.{◌≡◌, refl, sym, ap, ◌∙◌}
use mathlib.Core.Bool.{Bool, true, cond, ◌&&◌, false≢true}
use mathlib.Core.List.{List, [], ◌∷◌}
use Prim.Native.Nat.{ℕ, suc, ◌+◌, ◌-◌, ◌*◌, ◌/◌, ◌%◌, ◌≤◌, ◌<◌}
use native.Mathlib.Nat.{mul_comm, mul_assoc, mul-add, mul-zero, add-mul}
use native.Mathlib.Numerals.{add-one}
use native.Mathlib.Omega.{arith}
use lib.Dec.{eqb}
use Rattle.rdp_command.specs.declared.Scissor.{Scissor}
use Rattle.rdp_words.proofs.Tests.{by-test}
use Rattle.rdp_pixels.specs.Range.{one_through}
use Rattle.rdp_pixels.specs.Kept.{kept, line_kept, row_kept}
use Rattle.rdp_pixels.specs.Kept.{first_kept, end_kept}
use Rattle.rdp_pixels.proofs.RangeLaws.{one-cong}
use Rattle.rdp_pixels.proofs.KeptLaws.{row-kept-next, from-near, from-kept, from-least, kept-is, kept-true}
use Rattle.rdp_command.specs.declared.LoadFields.{LoadFields}
use Rattle.rdp_command.specs.declared.CopyFields.{CopyFields}
use Rattle.rdp_texels.specs.Texels.{Move, ahead_of, some, moves_over, texel_address}
use Rattle.rdp_texels.specs.Load.{load_move, load_moves}
use Rattle.rdp_texels.specs.Copy.{copy_move, copy_moves}
use Rattle.rdp_texels.specs.Rows.{keeps, grid_move, row_moves, kept_moves, load_grid, load_span, copy_grid, copy_span, bottom_from, rows_up, EvenGrid}
use Rattle.rdp_texels.proofs.SpanLaws.{over_none, over-cong, over-trim, some-nothing, some-single, some-over}
use Rattle.rdp_texels.proofs.CornerLaws.{Ends}

-- ---- numbers

pub same_move : {a a' b b' c c' : ℕ} {o o' : Bool} → a ≡ a' → b ≡ b' → c ≡ c' → o ≡ o'
    → ◌≡◌ {A = Move} (record { address = a; ahead = b; behind = c; odd = o }) (record { address = a'; ahead = b'; behind = c'; odd = o' })
same_move p q r s = λ i. record { address = p i; ahead = q i; behind = r i; odd = s i }

address_is : (image width x y : ℕ) → texel_address image width x y ≡ image + y * (2 * (width + 1)) + 2 * x
address_is image width x y =
    let w : ℕ = width + 1 in
    let sum : (y * w + x) * 2 ≡ y * w * 2 + x * 2 = add-mul (y * w) x 2 in
    let product : y * w * 2 ≡ y * (2 * w) = mul_assoc y w 2 ∙ ap (λ (n : ℕ). y * n) (mul_comm w 2) in
    omega arith

eight-times : (l y : ℕ) → 8 * (l * y) ≡ y * (8 * l)
eight-times l y = sym (mul_assoc 8 l y) ∙ mul_comm (8 * l) y

-- ---- a load

module _ (start : ℕ) (l : LoadFields) where
  load-move : (y x : ℕ) → load_move l y x ≡ grid_move (load_grid start l) y x
  load-move y x =
      let rows = eight-times l.tile.line y in
      let none : l.tile.line * 0 ≡ 0 = mul-zero l.tile.line in
      let turn : y + l.area.upper_left.t / 4 ≡ y + (0 + l.area.upper_left.t / 4) = omega arith in
      same_move (address_is l.image.address l.image.width x y) (omega arith) refl (ap (λ (n : ℕ). eqb (n % 2) 1) turn)

  pub load_moves_lem : load_moves l ≡ kept_moves (keeps (load_span l)) (load_grid start l) (load_span l) (load_span l).top
  unfolding load_moves row_moves line_kept
  load_moves_lem =
      let q = load_span l in
      rw (add-one (l.area.lower_right.t / 4), add-one (l.area.lower_right.s / 4))
      (over-cong _ _ q.top (suc (l.area.lower_right.t / 4) - q.top)
      (λ y _ _. over-cong (λ x. load_move l y x ∷ []) (λ x. grid_move (load_grid start l) y x ∷ []) q.left (suc (l.area.lower_right.s / 4) - q.left)
      (λ x _ _. ap (λ (m : Move). m ∷ []) (load-move y x))))

  pub load-ends : Ends (keeps (load_span l)) (load_span l)
  unfolding line_kept
  load-ends = record { first = λ _. refl; last = λ _. refl }

  pub load-even : EvenGrid (load_grid start l)
  load-even = record { ahead = omega arith; line = omega arith; behind = omega arith }

-- ---- rows that the scissor keeps

module _ (s : Scissor) (y : ℕ) where
  bottom-near : (bottom_from s.«field» s.odd y ≤ y) × (y ≤ bottom_from s.«field» s.odd y + 1)
  bottom-near = by-test (row_kept s (y - 1)) (λ e. rw e (omega arith, omega arith)) (λ e. rw e (omega arith, omega arith))

  bottom-kept : 0 < bottom_from s.«field» s.odd y → row_kept s (bottom_from s.«field» s.odd y - 1) ≡ true
  bottom-kept =
      by-test (row_kept s (y - 1)) (λ e. rw e (λ h. e))
      (λ e. rw e (λ h.
      by-test (row_kept s (y - 1 - 1)) (λ k. k)
      (λ k. let before : y - 1 - 1 + 1 ≡ y - 1 = omega arith in
      absurd (false≢true (sym e ∙ rw before at (row-kept-next s (y - 1 - 1) k))))))

  bottom-greatest : (k : ℕ) → k < y → row_kept s k ≡ true → k < bottom_from s.«field» s.odd y
  bottom-greatest k h kept-k =
      by-test (row_kept s (y - 1)) (λ e. rw e h)
      (λ e. rw e
      (let apart : k ≡ y - 1 → ⊥ = λ same. false≢true (sym e ∙ rw same at kept-k) in
      omega (arith, apart)))

-- ---- a copy rectangle

module _ (c : CopyFields) where
  abbrev left : ℕ
  left = c.rectangle.upper_left.x / 4

  abbrev right : ℕ
  right = c.rectangle.lower_right.x / 4

  abbrev top : ℕ
  top = c.rectangle.upper_left.y / 4

  abbrev bottom : ℕ
  bottom = c.rectangle.lower_right.y / 4

  abbrev pixel : ℕ → ℕ → List Move
  pixel y x = cond (kept c.scissor x y) (copy_move c y x ∷ []) []

  abbrev row : ℕ → List Move
  row y = moves_over left (suc right - left) (pixel y)

  abbrev first_row : ℕ
  first_row = first_kept c.rectangle.upper_left.y c.scissor.upper_left.y

  abbrev end_row : ℕ
  end_row = end_kept c.rectangle.lower_right.y c.scissor.lower_right.y

  -- a row of which no pixel is kept
  row-none : (y : ℕ) → top ≤ y → y ≤ bottom → (first_row ≤ y → y < end_row → row_kept c.scissor y ≡ true → ⊥) → row y ≡ []
  row-none y t b out =
      over_none (pixel y) left (suc right - left)
      (λ x _ _. by-test (kept c.scissor x y)
      (λ e. let k = kept-is c.scissor x y e in absurd (out (omega (arith, k.down)) (omega (arith, k.down)) k.row))
      (λ e. rw e))

  pub copy-ends : Ends (keeps (copy_span c)) (copy_span c)
  copy-ends = record { first = λ _. from-kept c.scissor first_row; last = λ h. bottom-kept c.scissor end_row (omega arith) }

  -- a test of the kept pixels' moves
  pub some-copied :
      (test : Move → Bool) →
      some test (copy_moves c) ≡ one_through top bottom (λ y. one_through left right (λ x. kept c.scissor x y && test (copy_move c y x)))
  unfolding copy_moves
  some-copied test =
      some-over test row top (suc bottom - top) ∙
      one-cong _ _ top (suc bottom - top)
      (λ y. some-over test (pixel y) left (suc right - left) ∙ one-cong _ _ left (suc right - left) (some-pixel y))
    where
      some-pixel : (y x : ℕ) → some test (pixel y x) ≡ (kept c.scissor x y && test (copy_move c y x))
      some-pixel y x = by-test (kept c.scissor x y) (λ e. rw e (some-single test (copy_move c y x))) (λ e. rw e (some-nothing test))

  module _ (start : ℕ) where
    copy-move : (y x : ℕ) → copy_move c y x ≡ grid_move (copy_grid start c) y x
    copy-move y x =
        let line : ℕ = c.tile.line in
        let down : ℕ = ahead_of c.rectangle.step.t / 32 in
        let rows = eight-times line y in
        let sum : line * (down + y) ≡ line * down + line * y = mul-add line down y in
        let turn : down + y + rows_up c ≡ y + (down + rows_up c) = omega arith in
        same_move (address_is c.image.address c.image.width x y) (omega arith) refl (ap (λ (n : ℕ). eqb (n % 2) 1) turn)

    -- a row of which some may be
    row-full : (y : ℕ) → first_row ≤ y → y < end_row → row_kept c.scissor y ≡ true → row y ≡ row_moves (copy_grid start c) (copy_span c) y
    unfolding row_moves
    row-full y t b e =
        let q = copy_span c in
        over-trim (pixel y) left (suc right - left) q.left q.right
        (λ x l r out. by-test (kept c.scissor x y)
        (λ h. let k = kept-is c.scissor x y h in absurd (out (omega (arith, k.across)) (omega (arith, k.across))))
        (λ h. rw h))
        (λ h. (omega arith, omega arith))
        ∙ over-cong (pixel y) (λ x. grid_move (copy_grid start c) y x ∷ []) q.left (q.right - q.left)
        (λ x l r.
        rw (kept-true c.scissor x y (record { across = (omega arith, omega arith); down = (omega arith, omega arith); row = e }))
        (ap (λ (m : Move). m ∷ []) (copy-move y x)))

    row_is : (y : ℕ) → (copy_span c).top ≤ y → y < (copy_span c).bottom
        → row y ≡ cond (row_kept c.scissor y) (row_moves (copy_grid start c) (copy_span c) y) []
    row_is y t b =
        let near = from-near c.scissor first_row in
        let near' = bottom-near c.scissor end_row in
        by-test (row_kept c.scissor y)
        (λ e. rw e (row-full y (omega arith) (omega arith) e))
        (λ e. rw e (row-none y (omega arith) (omega arith) (λ _ _ k. false≢true (sym e ∙ k))))

    pub copy_moves_lem : copy_moves c ≡ kept_moves (keeps (copy_span c)) (copy_grid start c) (copy_span c) (copy_span c).top
    unfolding copy_moves
    copy_moves_lem =
        let q = copy_span c in
        let near = from-near c.scissor first_row in
        let near' = bottom-near c.scissor end_row in
        over-trim row top (suc bottom - top) q.top q.bottom
        (λ y t b out. row-none y t (omega arith)
        (λ h h' k. out (from-least c.scissor first_row y h k) (bottom-greatest c.scissor end_row y h' k)))
        (λ h. (omega arith, omega arith))
        ∙ over-cong row (λ y. cond (row_kept c.scissor y) (row_moves (copy_grid start c) q y) []) q.top (q.bottom - q.top)
        (λ y t b. row_is y t (omega arith))

    pub copy-even : EvenGrid (copy_grid start c)
    copy-even = record { ahead = omega arith; line = omega arith; behind = omega arith }
