-- Laws of `in_runs` and `area_inside`. Assumes nothing.
use Rattle.std.proofs.Common.{◌≡◌, sym, ◌∙◌, ⊎_elim, true, false, ◌&&◌, ℕ, zero, suc, ◌+◌, ◌-◌, ◌*◌, ◌≤◌, ◌<◌, suc-mul, mul-le-mul_right, arith, le-leb, leb-true, ne_eqb, eqb, leb}
use Rattle.std.proofs.Math.Bool.{false≢true}
use Rattle.std.proofs.lemmas.Bool.{eqb-false}
use Rattle.rdp_words.proofs.Tests.{by-test, neither}
use Rattle.rdp_fill.specs.Runs.{Area}
use Rattle.rdp_pixels.specs.Overlay.{within}
use Rattle.rdp_fill.specs.Runs.{area_empty, area_inside, in_runs}
use Rattle.rdp_pixels.proofs.BoolLaws.{or_is, or_left, or_right, and_is, and-true-of, same_truth}
use Rattle.rdp_pixels.proofs.OverlayLaws.{within-true, within-is}

-- ---- some runs

-- run number k
pub in-runs-is : (from size stride rows i : ℕ) → in_runs from size stride rows i ≡ true
    → (k : ℕ) × (k < rows) × (from + k * stride ≤ i) × (i < from + k * stride + size)
unfolding in_runs
in-runs-is from size stride zero i e = absurd (false≢true e)
in-runs-is from size stride (suc rows) i e =
    ⊎_elim (λ here. let w = within-is from (from + size) i here in (0, omega arith, omega arith, omega arith))
    (λ later.
    let r = in-runs-is (from + stride) size stride rows i later in
    let next = suc-mul r.0 stride in
    (suc r.0, omega arith, omega arith, omega arith))
    (or_is (within from (from + size) i) (in_runs (from + stride) size stride rows i) e)

pub in-runs-true : (from size stride rows i k : ℕ) → k < rows → from + k * stride ≤ i → i < from + k * stride + size
    → in_runs from size stride rows i ≡ true
unfolding in_runs
in-runs-true from size stride zero i k h l m = absurd (omega arith)
in-runs-true from size stride (suc rows) i zero h l m =
    or_left (within from (from + size) i) (in_runs (from + stride) size stride rows i)
    (within-true from (from + size) i (omega arith) (omega arith))
in-runs-true from size stride (suc rows) i (suc k) h l m =
    let next = suc-mul k stride in
    or_right (within from (from + size) i) (in_runs (from + stride) size stride rows i)
    (in-runs-true (from + stride) size stride rows i k (omega arith) (omega arith) (omega arith))

-- from addresses to the indices of memory that starts at `start`
pub runs-from : (start first size stride rows i : ℕ) → start ≤ first
    → in_runs first size stride rows (start + i) ≡ in_runs (first - start) size stride rows i
runs-from start first size stride rows i h =
    same_truth (in_runs first size stride rows (start + i)) (in_runs (first - start) size stride rows i)
    (λ e. let r = in-runs-is first size stride rows (start + i) e in
    in-runs-true (first - start) size stride rows i r.0 r.1 (omega arith) (omega arith))
    (λ e. let r = in-runs-is (first - start) size stride rows i e in
    in-runs-true first size stride rows (start + i) r.0 r.1 (omega arith) (omega arith))

-- ---- an area

module _ (r : Area) where
  pub not-empty : area_empty r ≡ false → (0 < r.size) × (0 < r.rows)
  not-empty e =
      let parts = neither (eqb r.size 0) (eqb r.rows 0) e in
      (omega (arith, eqb-false r.size 0 parts.0), omega (arith, eqb-false r.rows 0 parts.1))

  pub empty-not : 0 < r.size → 0 < r.rows → area_empty r ≡ false
  empty-not h k = simp (ne_eqb r.size 0 (λ e. omega arith), ne_eqb r.rows 0 (λ e. omega arith))

  -- the address past the last run
  abbrev pub area_end : ℕ
  area_end = r.first + (r.rows - 1) * r.stride + r.size

  -- no address is in an area with no byte
  pub empty_runs : area_empty r ≡ true → (a : ℕ) → in_runs r.first r.size r.stride r.rows a ≡ false
  empty_runs e a =
      by-test (in_runs r.first r.size r.stride r.rows a)
      (λ h. let k = in-runs-is r.first r.size r.stride r.rows a h in
      absurd (false≢true (sym (empty-not (omega arith) (omega arith)) ∙ e)))
      (λ h. h)

  module _ (start len : ℕ) where
    pub inside-empty : area_empty r ≡ true → area_inside r start len ≡ true
    unfolding area_inside
    inside-empty e = or_left (area_empty r) (leb start r.first && leb area_end (start + len)) e

    pub inside-true : start ≤ r.first → area_end ≤ start + len → area_inside r start len ≡ true
    unfolding area_inside
    inside-true h k =
        or_right (area_empty r) (leb start r.first && leb area_end (start + len))
        (and-true-of (leb start r.first) (leb area_end (start + len)) (le-leb start r.first h) (le-leb area_end (start + len) k))

    pub inside_is : area_empty r ≡ false → area_inside r start len ≡ true → (start ≤ r.first) × (area_end ≤ start + len)
    unfolding area_inside
    inside_is some e =
        ⊎_elim (λ h. absurd (false≢true (sym some ∙ h)))
        (λ h. let parts = and_is (leb start r.first) (leb area_end (start + len)) h in
        (leb-true start r.first parts.0, leb-true area_end (start + len) parts.1))
        (or_is (area_empty r) (leb start r.first && leb area_end (start + len)) e)

    -- `area_inside` is the test that every address of the area lies in memory
    pub inside-sound : area_inside r start len ≡ true → (a : ℕ) → in_runs r.first r.size r.stride r.rows a ≡ true
        → (start ≤ a) × (a < start + len)
    inside-sound e a h =
        let k = in-runs-is r.first r.size r.stride r.rows a h in
        let inside = inside_is (empty-not (omega arith) (omega arith)) e in
        let before : k.0 * r.stride ≤ (r.rows - 1) * r.stride = mul-le-mul_right r.stride (omega arith) in
        (omega arith, omega arith)

    pub inside-complete : ((a : ℕ) → in_runs r.first r.size r.stride r.rows a ≡ true → (start ≤ a) × (a < start + len))
        → area_inside r start len ≡ true
    inside-complete all =
        by-test (area_empty r) inside-empty
        (λ e.
        let some = not-empty e in
        let low =
        all r.first
        (in-runs-true r.first r.size r.stride r.rows r.first 0 some.1 (omega arith) (omega arith)) in
        let high =
        all (area_end - 1)
        (in-runs-true r.first r.size r.stride r.rows (area_end - 1) (r.rows - 1) (omega arith) (omega arith) (omega arith)) in
        inside-true low.0 (omega arith))

    -- the tests of `is_inside`
    pub inside-early : area_empty r ≡ false → r.first < start → area_inside r start len ≡ false
    inside-early some h =
        by-test (area_inside r start len) (λ e. let inside = inside_is some e in absurd (omega arith)) (λ e. e)

    pub inside-late : area_empty r ≡ false → start ≤ r.first → (extent : ℕ) → extent ≡ (r.rows - 1) * r.stride + r.size
        → leb (r.first - start + extent) len ≡ area_inside r start len
    inside-late some h extent is =
        let end : ℕ = r.first - start + extent in
        same_truth (leb end len) (area_inside r start len)
        (λ e. let fits = leb-true end len e in inside-true h (omega arith))
        (λ e. let inside = inside_is some e in le-leb end len (omega arith))
