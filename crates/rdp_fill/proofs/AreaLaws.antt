-- The bytes of the kept pixels of a fill are the runs of its area.
--     covers-runs, outside-runs     the tests of `Fill` by the area
--     painted-runs, runs_fit        what a painter of runs leaves is `painted`, and what it asks
--     painted-empty                 nothing is painted where the area has no byte
-- Assumes nothing.
use Rattle.std.proofs.Common.{◌≡◌, sym, ap, ◌∙◌, true, false, cond, not, List, ℕ, suc, ◌+◌, ◌-◌, ◌*◌, ◌/◌, ◌%◌, ◌≤◌, ◌<◌, add-mul, mul_assoc, mul-zero, mul-le-mul_right, suc-mul, not-suc-le-zero, div-lt_iff_lt-mul, div-mul-le_self, arith, length}
use Rattle.std.proofs.Math.Bool.{not-not, false≢true}
use Rattle.std.proofs.Math.Nat.{lt-div-mul-add}
use Rattle.rdp_command.specs.declared.Image.{Image}
use Rattle.rdp_words.proofs.Tests.{by-test}
use Rattle.rdp_fill.specs.Runs.{Area}
use Rattle.rdp_command.specs.declared.FillFields.{FillFields}
use Rattle.rdp_fill.specs.Fill.{bytes_per_pixel, color_byte, covers, outside, painted, fill_memory, pixel_address}
use Rattle.rdp_pixels.specs.Kept.{row_kept}
use Rattle.rdp_fill.specs.Meaning.{Covers, IsFilled}
use Rattle.rdp_pixels.specs.Overlay.{overlay, within}
use Rattle.rdp_fill.specs.Runs.{area_empty, area_inside, area_of, end_column, end_row, first_column, first_kept_row, first_row, in_runs, kept_rows, row_step, run_bytes, stride_of}
use Rattle.rdp_pixels.proofs.BoolLaws.{cond-true, cond-false, same_truth, other-truth}
use Rattle.rdp_pixels.proofs.OverlayLaws.{split, within-true, within-is, overlay-none, overlay-cong, overlay-from}
use Rattle.rdp_pixels.proofs.KeptLaws.{row-kept-is, row-kept-true, from-near, from_itself, from-kept}
use Rattle.rdp_fill.proofs.PixelLaws.{covers-sound, covers-complete, outside-sound, outside-complete}
use Rattle.rdp_fill.proofs.InsideLaws.{in-runs-is, in-runs-true, runs-from, empty_runs, inside_is, inside-sound, inside-complete}

-- ---- addresses

-- j pixels to the right, and n rows down
module _ (i : Image) (x y : ℕ) where
  pixel-right : (j : ℕ) → pixel_address i (x + j) y ≡ pixel_address i x y + j * bytes_per_pixel i.size
  unfolding pixel_address
  pixel-right j =
      let before : ℕ = y * (i.width + 1) in
      let sum : before + (x + j) ≡ before + x + j = omega arith in
      rw (sum, add-mul (before + x) j (bytes_per_pixel i.size)) (omega arith)

  pixel-down : (n : ℕ) → pixel_address i x (y + n) ≡ pixel_address i x y + n * ((i.width + 1) * bytes_per_pixel i.size)
  unfolding pixel_address
  pixel-down n =
      let w : ℕ = i.width + 1 in
      let b : ℕ = bytes_per_pixel i.size in
      let rows : (y + n) * w ≡ y * w + n * w = add-mul y n w in
      let sum : (y + n) * w + x ≡ y * w + x + n * w = omega arith in
      rw (sum, add-mul (y * w + x) (n * w) b, mul_assoc n w b) (omega arith)

-- the pixel of a run of n pixels that holds byte d
run-pixel : (b n d : ℕ) → d < n * b → (j : ℕ) × (j < n) × (j * b ≤ d) × (d < j * b + b)
run-pixel b n d h =
    split 1 b
    (λ pos. (d / b, (div-lt_iff_lt-mul pos).1 h, div-mul-le_self d b, lt-div-mul-add pos))
    (λ no_bytes. absurd (empty (omega arith)))
  where
    empty : b ≡ 0 → ⊥
    empty e = not-suc-le-zero (rw (e, mul-zero) at h)

-- ---- rows

-- every second row, from one on: row y by its number, and row number k
module _ (o first from end : ℕ) (after : first ≤ from) (near : from ≤ first + 1) (parity : from % 2 ≡ o) where
  second_from : (y : ℕ) → first ≤ y → y % 2 ≡ o → from ≤ y
  second_from y l e = omega arith

  second_is : (y : ℕ) → first ≤ y → y % 2 ≡ o → y ≡ from + (y - from) / 2 * 2
  second_is y l e = let h = second_from y l e in omega arith

  second-count : (y : ℕ) → from ≤ y → y < end → (y - from) / 2 < (end - from + 1) / 2
  second-count y l h = omega arith

  second-end : (k : ℕ) → k < (end - from + 1) / 2 → from + k * 2 < end
  second-end k h = omega arith

  second-parity : (k : ℕ) → (from + k * 2) % 2 ≡ o
  second-parity k = omega arith

module _ (f : FillFields) where
  -- with field set
  module _ (e : f.scissor.«field» ≡ true) where
    pub step-two : row_step f ≡ 2
    unfolding row_step
    step-two = cond-true f.scissor.«field» 2 1 e

    pub rows-half : kept_rows f ≡ (end_row f - first_kept_row f + 1) / 2
    unfolding kept_rows
    rows-half = cond-true f.scissor.«field» ((end_row f - first_kept_row f + 1) / 2) (end_row f - first_kept_row f) e

    first-kept : (first_row f ≤ first_kept_row f) × (first_kept_row f ≤ first_row f + 1) × (first_kept_row f % 2 ≡ cond f.scissor.odd 1 0)
    first-kept =
        let near = from-near f.scissor (first_row f) in
        (near.0, near.1, row-kept-is f.scissor (first_kept_row f) (from-kept f.scissor (first_row f)) e)

  -- without
  module _ (e : f.scissor.«field» ≡ false) where
    every-row : (y : ℕ) → row_kept f.scissor y ≡ true
    every-row y = row-kept-true f.scissor y (λ h. absurd (false≢true (sym e ∙ h)))

    pub step-one : row_step f ≡ 1
    unfolding row_step
    step-one = cond-false f.scissor.«field» 2 1 e

    pub rows_all : kept_rows f ≡ end_row f - first_kept_row f
    unfolding kept_rows
    rows_all = cond-false f.scissor.«field» ((end_row f - first_kept_row f + 1) / 2) (end_row f - first_kept_row f) e

    first-all : first_kept_row f ≡ first_row f
    first-all = from_itself f.scissor (first_row f) (every-row (first_row f))

  -- the number of a kept row, and the row of a number
  row_number : (y : ℕ) → first_row f ≤ y → y < end_row f → row_kept f.scissor y ≡ true
      → (k : ℕ) × (k < kept_rows f) × (y ≡ first_kept_row f + k * row_step f)
  row_number y l h kept = by-test f.scissor.«field» second every
    where
      second : f.scissor.«field» ≡ true → (k : ℕ) × (k < kept_rows f) × (y ≡ first_kept_row f + k * row_step f)
      second e =
          let o : ℕ = cond f.scissor.odd 1 0 in
          let from : ℕ = first_kept_row f in
          let at = first-kept e in
          let parity = row-kept-is f.scissor y kept e in
          let least = second_from o (first_row f) from (end_row f) at.0 at.1 at.2 y l parity in (
            (y - from) / 2,
            rw (rows-half e) (second-count o (first_row f) from (end_row f) at.0 at.1 at.2 y least h),
            rw (step-two e) (second_is o (first_row f) from (end_row f) at.0 at.1 at.2 y l parity),
          )

      every : f.scissor.«field» ≡ false → (k : ℕ) × (k < kept_rows f) × (y ≡ first_kept_row f + k * row_step f)
      every e = (y - first_row f, rw (rows_all e, first-all e) (omega arith), rw (step-one e, first-all e) (omega arith))

  number-row : (k : ℕ) → k < kept_rows f
      → (first_row f ≤ first_kept_row f + k * row_step f) × (first_kept_row f + k * row_step f < end_row f)
      × (row_kept f.scissor (first_kept_row f + k * row_step f) ≡ true)
  number-row k h = by-test f.scissor.«field» second every
    where
      second : f.scissor.«field» ≡ true
          → (first_row f ≤ first_kept_row f + k * row_step f) × (first_kept_row f + k * row_step f < end_row f)
          × (row_kept f.scissor (first_kept_row f + k * row_step f) ≡ true)
      second e =
          let o : ℕ = cond f.scissor.odd 1 0 in
          let from : ℕ = first_kept_row f in
          let at = first-kept e in
          rw (step-two e) (
            omega arith,
            second-end o (first_row f) from (end_row f) at.0 at.1 at.2 k (rw (rows-half e) at h),
            row-kept-true f.scissor (from + k * 2) (λ _. second-parity o (first_row f) from (end_row f) at.0 at.1 at.2 k),
          )

      every : f.scissor.«field» ≡ false
          → (first_row f ≤ first_kept_row f + k * row_step f) × (first_kept_row f + k * row_step f < end_row f)
          × (row_kept f.scissor (first_kept_row f + k * row_step f) ≡ true)
      every e =
          let rows = rows_all e in
          let first = first-all e in
          rw (step-one e) (omega arith, omega arith, every-row e (first_kept_row f + k * 1))

  -- ---- runs

  -- the bounds of the kept columns and rows
  kept-pixel : (x y : ℕ) → first_column f ≤ x → x < end_column f → first_row f ≤ y → y < end_row f → row_kept f.scissor y ≡ true → IsFilled f x y
  kept-pixel x y l r t b e =
      record {
        columns = omega arith;
        rows = omega arith;
        across = omega arith;
        down = omega arith;
        parity = row-kept-is f.scissor y e;
      }

  kept-columns : (x y : ℕ) → IsFilled f x y → (first_column f ≤ x) × (x < end_column f)
  kept-columns x y k = omega arith

  kept-rows : (x y : ℕ) → IsFilled f x y → (first_row f ≤ y) × (y < end_row f)
  kept-rows x y k = omega arith

  -- where the run of row number k begins
  abbrev run_start : ℕ → ℕ
  run_start k = pixel_address f.image (first_column f) (first_kept_row f) + k * stride_of f

  run-start : (k : ℕ) → pixel_address f.image (first_column f) (first_kept_row f + k * row_step f) ≡ run_start k
  run-start k =
      let bytes : ℕ = (f.image.width + 1) * bytes_per_pixel f.image.size in
      pixel-down f.image (first_column f) (first_kept_row f) (k * row_step f)
      ∙ ap (λ (n : ℕ). pixel_address f.image (first_column f) (first_kept_row f) + n) (mul_assoc k (row_step f) bytes)

  run-covers : (a k : ℕ) → k < kept_rows f → run_start k ≤ a → a < run_start k + run_bytes f → Covers f a
  run-covers a k h from to =
      let b : ℕ = bytes_per_pixel f.image.size in
      let y : ℕ = first_kept_row f + k * row_step f in
      let row = number-row k h in
      let pixel = run-pixel b (end_column f - first_column f) (a - run_start k) (omega arith) in
      let x : ℕ = first_column f + pixel.0 in
      let place = pixel-right f.image (first_column f) y pixel.0 in
      let base = run-start k in
      record {
        x = x;
        y = y;
        kept = kept-pixel x y (omega arith) (omega arith) row.0 row.1 row.2;
        start = omega arith;
        end = omega arith;
      }

  covers-run : (a : ℕ) → Covers f a → (k : ℕ) × (k < kept_rows f) × (run_start k ≤ a) × (a < run_start k + run_bytes f)
  covers-run a c =
      let b : ℕ = bytes_per_pixel f.image.size in
      let columns = kept-columns c.x c.y c.kept in
      let rows = kept-rows c.x c.y c.kept in
      let row = row_number c.y rows.0 rows.1 (row-kept-true f.scissor c.y c.kept.parity) in
      let j : ℕ = c.x - first_column f in
      let right : first_column f + j ≡ c.x = omega arith in
      let place : pixel_address f.image c.x c.y ≡ pixel_address f.image (first_column f) c.y + j * b =
      rw right at (pixel-right f.image (first_column f) c.y j) in
      let base : pixel_address f.image (first_column f) c.y ≡ run_start row.0 = ap (pixel_address f.image (first_column f)) row.2 ∙ run-start row.0 in
      let high : suc j * b ≤ (end_column f - first_column f) * b = mul-le-mul_right b (omega arith) in
      let next : suc j * b ≡ j * b + b = suc-mul j b in
      let start = c.start in
      let end = c.end in
      (row.0, row.1, omega arith, omega arith)

  pub covers-runs : (a : ℕ) → covers f a ≡ (let r = area_of f in in_runs r.first r.size r.stride r.rows a)
  unfolding area_of
  covers-runs a =
      let first : ℕ = pixel_address f.image (first_column f) (first_kept_row f) in
      same_truth (covers f a) (in_runs first (run_bytes f) (stride_of f) (kept_rows f) a)
      (λ e. let r = covers-run a (covers-sound f a e) in
      in-runs-true first (run_bytes f) (stride_of f) (kept_rows f) a r.0 r.1 r.2 r.3)
      (λ e. let r = in-runs-is first (run_bytes f) (stride_of f) (kept_rows f) a e in
      covers-complete f a (run-covers a r.0 r.1 r.2 r.3))

  pub outside-runs : (start len : ℕ) → outside f start len ≡ not (area_inside (area_of f) start len)
  outside-runs start len =
      other-truth (outside f start len) (area_inside (area_of f) start len)
      (λ out inside.
      let r = outside-sound f start len out in
      r.2 (inside-sound (area_of f) start len inside r.0 (sym (covers-runs r.0) ∙ covers-complete f r.0 r.1)))
      (λ none. inside-complete (area_of f) start len
      (λ a h. by-test (within start (start + len) a) (within-is start (start + len) a)
      (λ late. absurd (false≢true (sym none ∙ outside-complete f start len
      (a, covers-sound f a (covers-runs a ∙ h), λ w. false≢true (sym late ∙ within-true start (start + len) a w.0 w.1)))))))

-- ---- the area in a function

module _ (f : FillFields) (r : Area) (same : r ≡ area_of f) (start : ℕ) where
  pub outside-area : (len : ℕ) → outside f start len ≡ not (area_inside r start len)
  outside-area len = outside-runs f start len ∙ ap (λ (x : Area). not (area_inside x start len)) (sym same)

  pub inside-area : (len : ℕ) → area_inside r start len ≡ not (outside f start len)
  inside-area len = sym (ap not (outside-area len) ∙ not-not (area_inside r start len))

  covers-area : (a : ℕ) → covers f a ≡ in_runs r.first r.size r.stride r.rows a
  covers-area a = rw same (covers-runs f a)

  -- memory that starts at address `start`, where no byte is covered
  module _ (m : List ℕ) where
    -- what painting is to leave, inside memory and not
    pub leaves-painted : area_inside r start (length m) ≡ true → painted f start m ≡ fill_memory f start m
    leaves-painted e = rw (outside-area (length m), e)

    pub leaves_all : area_inside r start (length m) ≡ false → m ≡ fill_memory f start m
    leaves_all e = rw (outside-area (length m), e)

    pub painted-empty : area_empty r ≡ true → m ≡ painted f start m
    painted-empty e =
        overlay-none (covers f) (color_byte f.color) start m (λ i _. covers-area (start + i) ∙ empty_runs r e (start + i))

    -- and where every covered byte is in memory: the runs by the indices of memory, and what they leave
    module _ (some : area_empty r ≡ false) (inside : area_inside r start (length m) ≡ true) where
      pub runs_fit : (start ≤ r.first) × (r.first - start + (r.rows - 1) * r.stride + r.size ≤ length m)
      runs_fit = let h = inside_is r start (length m) some inside in (omega arith, omega arith)

      pub painted-runs :
          {x : List ℕ} → x ≡ overlay (in_runs (r.first - start) r.size r.stride r.rows) (λ i. color_byte f.color (start + i)) 0 m →
          x ≡ painted f start m
      painted-runs h =
          h
          ∙ overlay-cong (in_runs (r.first - start) r.size r.stride r.rows) (λ i. covers f (start + i)) (λ i. color_byte f.color (start + i)) 0 m
          (λ i _. sym (covers-area (start + (0 + i)) ∙ runs-from start r.first r.size r.stride r.rows (0 + i) runs_fit.0))
          ∙ sym (overlay-from (covers f) (color_byte f.color) start m)
