-- Refusals 12 and 18 by the corners of a grid: places rise with rows and columns. Assumes nothing.
use mathlib.Core.Path.{◌≡◌, refl, sym, ap, ◌∙◌}
use mathlib.Core.Bool.{Bool, true, false, cond, not, ◌&&◌, false≢true, or-false}
use mathlib.Core.List.{List, [], ◌∷◌}
use Prim.Native.Nat.{ℕ, ◌+◌, ◌-◌, ◌*◌, ◌/◌, ◌%◌, ◌≤◌, ◌<◌}
use native.Mathlib.Nat.{mul_left_comm, mul-le-mul_right}
use native.Mathlib.Omega.{arith}
use borrow.Author.Tests.{le-leb, lt-leb, lt-ltb, le-ltb, leb-true, leb-false, ltb-true, ltb-false, not-true, not-false}
use lib.Dec.{leb, ltb}
use Rattle.rdp_words.proofs.Tests.{by-test, neither}
use Rattle.rdp_pixels.specs.Overlay.{within}
use Rattle.rdp_pixels.proofs.BoolLaws.{and_is, and-true-of, other-truth}
use Rattle.rdp_pixels.proofs.OverlayLaws.{split, within-true, within-is}
use Rattle.rdp_texels.specs.Texels.{Move, some, in_row, outside_memory, outside_texture}
use Rattle.rdp_texels.specs.Rows.{Grid, Span, grid_address, grid_ahead, grid_odd, grid_move, row_moves, kept_moves, lies, span_some, corners_refusal, EvenGrid}
use Rattle.rdp_texels.proofs.TurnLaws.{row_next, row_below, row-below-is}
use Rattle.rdp_texels.proofs.SpanLaws.{over_none, some-over-is, some-over-true}

-- ---- even bytes

even-product : (y l : ℕ) → l % 2 ≡ 0 → y * l % 2 ≡ 0
even-product y l e =
    let half : l ≡ 2 * (l / 2) = omega arith in
    let product : y * l ≡ 2 * (y * (l / 2)) = ap (λ (n : ℕ). y * n) half ∙ mul_left_comm y 2 (l / 2) in
    omega arith

pub even-texel : (g : Grid) → EvenGrid g → (y x : ℕ) → (grid_ahead g y x - g.behind) % 2 ≡ 0
even-texel g e y x =
    let p = even-product y g.line e.line in
    let a = e.ahead in
    let b = e.behind in
    difference (g.ahead + y * g.line + 2 * x) g.behind (sum g.ahead (y * g.line) x a p) b
  where
    sum : (a p x : ℕ) → a % 2 ≡ 0 → p % 2 ≡ 0 → (a + p + 2 * x) % 2 ≡ 0
    sum a p x h k = omega arith

    difference : (a b : ℕ) → a % 2 ≡ 0 → b % 2 ≡ 0 → (a - b) % 2 ≡ 0
    difference a b h k = omega arith

-- ---- the moves of a grid

module _ (keeps : ℕ → Bool) (g : Grid) (q : Span) where
  abbrev row_of : ℕ → List Move
  row_of y = cond (keeps y) (row_moves g q y) []

  module _ (test : Move → Bool) where
    grid-some-is : some test (kept_moves keeps g q q.top) ≡ true
        → (y x : ℕ) × (q.top ≤ y) × (y < q.bottom) × (q.left ≤ x) × (x < q.right) × (test (grid_move g y x) ≡ true)
    unfolding row_moves some
    grid-some-is e =
        let row = some-over-is test row_of q.top (q.bottom - q.top) e in
        let y : ℕ = row.0 in
        by-test (keeps y)
        (λ h.
        let column = some-over-is test (λ x. grid_move g y x ∷ []) q.left (q.right - q.left) (rw h at row.3) in
        let x : ℕ = column.0 in
        (y, x, row.1, omega arith, column.1, omega arith, sym (or-false (test (grid_move g y x))) ∙ column.3))
        (λ h. absurd (false≢true (rw h at row.3)))

    grid-some-true : (y x : ℕ) → q.top ≤ y → y < q.bottom → keeps y ≡ true → q.left ≤ x → x < q.right → test (grid_move g y x) ≡ true
        → some test (kept_moves keeps g q q.top) ≡ true
    unfolding row_moves some
    grid-some-true y x t b k l r e =
        some-over-true test row_of q.top (q.bottom - q.top) y t (omega arith)
        (rw k
        (some-over-true test (λ x. grid_move g y x ∷ []) q.left (q.right - q.left) x l (omega arith)
        (or-false (test (grid_move g y x)) ∙ e)))

  -- no move where there is no row or no column
  pub grid-none : span_some q ≡ false → kept_moves keeps g q q.top ≡ []
  unfolding row_moves
  grid-none e =
      split q.right q.left
      (λ h. over_none row_of q.top (q.bottom - q.top)
      (λ y l u. by-test (keeps y) (λ k. rw k (over_none (λ x. grid_move g y x ∷ []) q.left (q.right - q.left) (λ x l' u'. absurd (omega arith))))
      (λ k. rw k)))
      (λ h. split q.bottom q.top (λ k. over_none row_of q.top (q.bottom - q.top) (λ y l u. absurd (omega arith)))
      (λ k. absurd (false≢true (sym e ∙ and-true-of (ltb q.left q.right) (ltb q.top q.bottom) (lt-ltb q.left q.right h)
      (lt-ltb q.top q.bottom k)))))

  -- where there is one, and the first and the last row are kept
  module _ (columns : q.left < q.right) (rows : q.top < q.bottom) (first : keeps q.top ≡ true) (last : keeps (q.bottom - 1) ≡ true) where
    -- a test of moves that holds exactly where a place and the next are not both among `size` numbers from `low` on
    module _ (test : Move → Bool) (base stride low size : ℕ)
        (sound : (y x : ℕ) → test (grid_move g y x) ≡ true → low ≤ base + y * stride + 2 * x → base + y * stride + 2 * x + 2 ≤ low + size → ⊥)
        (complete : (y x : ℕ) → test (grid_move g y x) ≡ false → (low ≤ base + y * stride + 2 * x) × (base + y * stride + 2 * x + 2 ≤ low + size)) where
      corner : some test (kept_moves keeps g q q.top) ≡ not (lies base stride q low size)
      corner =
          other-truth (some test (kept_moves keeps g q q.top)) (lies base stride q low size)
          (λ bad good.
          let m = grid-some-is test bad in
          let y : ℕ = m.0 in
          let parts = and_is (leb low (base + q.top * stride + 2 * q.left)) (leb (base + (q.bottom - 1) * stride + 2 * q.right) (low + size)) good in
          let from = leb-true low (base + q.top * stride + 2 * q.left) parts.0 in
          let to = leb-true (base + (q.bottom - 1) * stride + 2 * q.right) (low + size) parts.1 in
          let above : q.top * stride ≤ y * stride = mul-le-mul_right stride m.2 in
          let below : y * stride ≤ (q.bottom - 1) * stride = mul-le-mul_right stride (omega arith) in
          sound y m.1 m.6 (omega arith) (omega arith))
          (λ none.
          let one = complete q.top q.left (never none q.top q.left (omega arith) rows first (omega arith) columns) in
          let two = complete (q.bottom - 1) (q.right - 1)
          (never none (q.bottom - 1) (q.right - 1) (omega arith) (omega arith) last (omega arith) (omega arith)) in
          and-true-of (leb low (base + q.top * stride + 2 * q.left)) (leb (base + (q.bottom - 1) * stride + 2 * q.right) (low + size))
          (le-leb low (base + q.top * stride + 2 * q.left) one.0)
          (le-leb (base + (q.bottom - 1) * stride + 2 * q.right) (low + size) (omega arith)))
        where
          never : some test (kept_moves keeps g q q.top) ≡ false → (y x : ℕ) → q.top ≤ y → y < q.bottom → keeps y ≡ true → q.left ≤ x → x < q.right
              → test (grid_move g y x) ≡ false
          never none y x t b k l r =
              by-test (test (grid_move g y x)) (λ e. absurd (false≢true (sym none ∙ grid-some-true test y x t b k l r e))) (λ e. e)

    -- 12
    pub memory-corners : (start len : ℕ) → some (outside_memory start len) (kept_moves keeps g q q.top) ≡ not (lies g.address g.pitch q start len)
    memory-corners start len = corner (outside_memory start len) g.address g.pitch start len sound complete
      where
        sound : (y x : ℕ) → outside_memory start len (grid_move g y x) ≡ true → start ≤ grid_address g y x → grid_address g y x + 2 ≤ start + len → ⊥
        sound y x bad l h =
            false≢true (sym (not-true (within start (start + len) (grid_address g y x) && within start (start + len) (grid_address g y x + 1)) bad)
            ∙ and-true-of (within start (start + len) (grid_address g y x)) (within start (start + len) (grid_address g y x + 1))
            (within-true start (start + len) (grid_address g y x) l (omega arith))
            (within-true start (start + len) (grid_address g y x + 1) (omega arith) (omega arith)))

        complete : (y x : ℕ) → outside_memory start len (grid_move g y x) ≡ false → (start ≤ grid_address g y x) × (grid_address g y x + 2 ≤ start + len)
        complete y x good =
            let both = not-false (within start (start + len) (grid_address g y x) && within start (start + len) (grid_address g y x + 1)) good in
            let parts = and_is (within start (start + len) (grid_address g y x)) (within start (start + len) (grid_address g y x + 1)) both in
            let one = within-is start (start + len) (grid_address g y x) parts.0 in
            let two = within-is start (start + len) (grid_address g y x + 1) parts.1 in
            (omega arith, omega arith)

    -- 18
    pub texture-corners : EvenGrid g → some outside_texture (kept_moves keeps g q q.top) ≡ not (lies g.ahead g.line q g.behind 4096)
    texture-corners even = corner outside_texture g.ahead g.line g.behind 4096 sound complete
      where
        next : (y x : ℕ) → in_row (grid_odd g y) (grid_ahead g y x - g.behind + 1) ≡ in_row (grid_odd g y) (grid_ahead g y x - g.behind) + 1
        next y x = row_next (grid_odd g y) (grid_ahead g y x - g.behind) (even-texel g even y x)

        sound : (y x : ℕ) → outside_texture (grid_move g y x) ≡ true → g.behind ≤ grid_ahead g y x → grid_ahead g y x + 2 ≤ g.behind + 4096 → ⊥
        sound y x bad l h =
            let z : ℕ = grid_ahead g y x - g.behind in
            let in-texture = row_below (grid_odd g y) (z + 1) 512 (omega arith) in
            let n = next y x in
            false≢true (rw (le-ltb (grid_ahead g y x) g.behind l, lt-leb 4096 (in_row (grid_odd g y) z + 1) (omega arith)) at bad)

        complete : (y x : ℕ) → outside_texture (grid_move g y x) ≡ false → (g.behind ≤ grid_ahead g y x) × (grid_ahead g y x + 2 ≤ g.behind + 4096)
        complete y x good =
            let z : ℕ = grid_ahead g y x - g.behind in
            let parts = neither (ltb (grid_ahead g y x) g.behind) (leb 4096 (in_row (grid_odd g y) z + 1)) good in
            let low = ltb-false (grid_ahead g y x) g.behind parts.0 in
            let high = leb-false 4096 (in_row (grid_odd g y) z + 1) parts.1 in
            let n = next y x in
            let below = row-below-is (grid_odd g y) (z + 1) 512 (omega arith) in
            (low, omega arith)

-- the first and the last row of a span that has one are kept
pub record Ends (keeps : ℕ → Bool) (q : Span) : Type 0 where
  pub first : q.top < q.bottom → keeps q.top ≡ true
  pub last : q.top < q.bottom → keeps (q.bottom - 1) ≡ true

-- 12 and 18 of moves, in their order
abbrev pub texel_refusal : ℕ → ℕ → List Move → ℕ
texel_refusal start len ms = cond (some (outside_memory start len) ms) 12 (cond (some outside_texture ms) 18 0)

pub corners-refusal : (keeps : ℕ → Bool) (g : Grid) (q : Span) → EvenGrid g → Ends keeps q → (len : ℕ)
    → texel_refusal g.start len (kept_moves keeps g q q.top) ≡ corners_refusal g q len
unfolding some
corners-refusal keeps g q even ends len = by-test (span_some q) full (λ e. rw (grid-none keeps g q e, e))
  where
    picked : (a b : Bool) → ◌≡◌ {A = ℕ} (cond (not a) 12 (cond (not b) 18 0)) (cond a (cond b 0 18) 12)
    picked true true = refl
    picked true false = refl
    picked false b = refl

    full : span_some q ≡ true → texel_refusal g.start len (kept_moves keeps g q q.top) ≡ corners_refusal g q len
    full e =
        let parts = and_is (ltb q.left q.right) (ltb q.top q.bottom) e in
        let columns = ltb-true q.left q.right parts.0 in
        let rows = ltb-true q.top q.bottom parts.1 in
        rw (
          e,
          memory-corners keeps g q columns rows (ends.first rows) (ends.last rows) g.start len,
          texture-corners keeps g q columns rows (ends.first rows) (ends.last rows) even,
        )
        (picked (lies g.address g.pitch q g.start len) (lies g.ahead g.line q g.behind 4096))
