-- Runs of bytes at a stride: one run after the other, and runs that are adjacent. Assumes nothing.
use Rattle.std.proofs.Common.{◌≡◌, refl, sym, ap, ◌∙◌, Bool, ◌||◌, List, ◌++◌, ℕ, zero, suc, ◌+◌, ◌-◌, ◌*◌, ◌%◌, ◌≤◌, ◌<◌, length, get_or, take, drop, arith, ⊎_elim}
use Rattle.std.proofs.Math.Bool.{or-false}
use Rattle.std.proofs.Math.Nat.{suc-mul, zero-mul, mul-le-mul_right}
use Rattle.std.proofs.Math.ListN.{get_or-append, length-append, length-drop}
use Rattle.std.proofs.Math.Seq.{length-take-le}
use Rattle.std.proofs.lemmas.List.{get_or-take, get_or-drop, get_or-append_right}
use Rattle.rdp_fill.specs.Fill.{color_byte}
use Rattle.rdp_fill.specs.Pattern.{Holds, Follows}
use Rattle.rdp_fill.specs.Runs.{in_runs, is_in, Fit, IsJoined}
use Rattle.rdp_fill.specs.declared.run.Runs.{Runs}
use Rattle.rdp_pixels.specs.Overlay.{overlay, within}
use Rattle.rdp_pixels.proofs.BoolLaws.{or_is, or_left, or_right, same_truth}
use Rattle.rdp_pixels.proofs.OverlayLaws.{split, within-true, within-is, within-false, within-joined, overlay-none, overlay-cong, overlay-is-0, overlay-overlay}
use Rattle.rdp_fill.proofs.InsideLaws.{in-runs-is, in-runs-true}
use Rattle.rdp_fill.proofs.PatternLaws.{color-same, holds-tail}

-- ---- one run after the other

-- run number k lies before the end of the last
pub run-fits : (r : Runs) (k len : ℕ) → Fit r len → k < r.rows → (k * r.stride ≤ len) × (r.from + k * r.stride + r.size ≤ len)
run-fits r k len fit h =
    let before : k * r.stride ≤ (r.rows - 1) * r.stride = mul-le-mul_right r.stride (omega arith) in
    (omega arith, omega arith)

module _ (from size stride : ℕ) where
  -- the first n + 1 runs are the first n and one more
  runs-last : (n i : ℕ) → (in_runs from size stride n i || within (from + n * stride) (from + n * stride + size) i) ≡ in_runs from size stride (n + 1) i
  runs-last n i =
      let at : ℕ = from + n * stride in
      same_truth (in_runs from size stride n i || within at (at + size) i) (in_runs from size stride (n + 1) i)
      (λ e.
      ⊎_elim
      (λ before. let r = in-runs-is from size stride n i before in in-runs-true from size stride (n + 1) i r.0 (omega arith) r.2 r.3)
      (λ last. let w = within-is at (at + size) i last in in-runs-true from size stride (n + 1) i n (omega arith) w.0 w.1)
      (or_is (in_runs from size stride n i) (within at (at + size) i) e))
      (λ e.
      let r = in-runs-is from size stride (n + 1) i e in
      split n r.0
      (λ last.
      let same : r.0 ≡ n = omega arith in
      or_right (in_runs from size stride n i) (within at (at + size) i) (within-true at (at + size) i (rw same at r.2) (rw same at r.3)))
      (λ before. or_left (in_runs from size stride n i) (within at (at + size) i) (in-runs-true from size stride n i r.0 before r.2 r.3)))

  module _ (v : ℕ → ℕ) (m : List ℕ) where
    pub runs_none : m ≡ overlay (in_runs from size stride 0) v 0 m
    unfolding in_runs
    runs_none = overlay-none (in_runs from size stride 0) v 0 m (λ i h. refl)

    -- one run more is written over memory
    pub runs-more : (n : ℕ) → overlay (within (from + n * stride) (from + n * stride + size)) v 0 (overlay (in_runs from size stride n) v 0 m)
        ≡ overlay (in_runs from size stride (n + 1)) v 0 m
    runs-more n =
        let at : ℕ = from + n * stride in
        overlay-overlay (in_runs from size stride n) (within at (at + size)) v 0 m
        ∙ overlay-cong (λ i. in_runs from size stride n i || within at (at + size) i) (in_runs from size stride (n + 1)) v 0 m
        (λ i h. runs-last n (0 + i))

-- a part of memory that comes to hold the values that its indices give
pub part-overlaid : (a n : ℕ) (v : ℕ → ℕ) (m part : List ℕ) → length part ≡ n → a + n ≤ length m
    → ((k : ℕ) → k < n → get_or part k 0 ≡ v (a + k)) → take a m ++ (part ++ drop n (drop a m)) ≡ overlay (within a (a + n)) v 0 m
part-overlaid a n v m part long fits holds =
    let front : length (take a m) ≡ a = length-take-le a m (omega arith) in
    let later : List ℕ = drop n (drop a m) in
    let rest : List ℕ = part ++ later in
    overlay-is-0 (within a (a + n)) v m (take a m ++ rest)
    (length-append (take a m) rest ∙ omega (arith, front, length-append part later, length-drop n (drop a m), length-drop a m))
    (λ i h.
    split a i
    (λ after.
    get_or-append_right (take a m) rest a i 0 front after
    ∙ split n (i - a)
    (λ past.
    get_or-append_right part later n (i - a) 0 long past
    ∙ get_or-drop n (drop a m) (i - a - n) 0
    ∙ get_or-drop a m (n + (i - a - n)) 0
    ∙ ap (λ (k : ℕ). get_or m k 0) (past-it i after past)
    ∙ rw (within-false a (a + n) i (λ x y. omega arith)))
    (λ here.
    get_or-append part later 0 (i - a) (omega arith)
    ∙ holds (i - a) here
    ∙ ap v (on-it i after)
    ∙ rw (within-true a (a + n) i after (omega arith))))
    (λ before.
    get_or-append (take a m) rest 0 i (omega arith)
    ∙ get_or-take a m i 0 before
    ∙ rw (within-false a (a + n) i (λ x y. omega arith))))
  where
    past-it : (i : ℕ) → a ≤ i → n ≤ i - a → a + (n + (i - a - n)) ≡ i
    past-it i h k = omega arith

    on-it : (i : ℕ) → a ≤ i → a + (i - a) ≡ i
    on-it i h = omega arith

-- run number k is written from a pattern of the colour
module _ (color : ℕ) (r : Runs) (k : ℕ) where
  abbrev value : ℕ → ℕ
  value i = color_byte color (r.start + i)

  abbrev at : ℕ
  at = r.from + k * r.stride

  pub run-written : (phase n : ℕ) (m now part pattern : List ℕ) {s p : ℕ} → now ≡ overlay (in_runs r.from r.size r.stride k) value 0 m
      → Follows (take (length pattern - phase) (drop phase pattern)) part s → Holds color 0 pattern p → p ≡ length pattern
      → phase % 4 ≡ (r.start + at) % 4 → length part ≡ n
      → s ≡ n → n ≡ r.size → at + r.size ≤ length now
      → take at now ++ (part ++ drop n (drop at now)) ≡ overlay (in_runs r.from r.size r.stride (k + 1)) value 0 m
  run-written phase n m now part pattern before written holds full due long all whole fits =
      let fits_n : at + n ≤ length now = omega arith in
      let shown = (written.holds color (0 + phase) (holds-tail pattern phase (rw full at holds))).byte in
      let size : at + n ≡ at + r.size = omega arith in
      part-overlaid at n value now part long fits_n (λ j h. shown j (omega arith) ∙ color-same color (0 + phase + j) (r.start + (at + j)) (omega arith))
      ∙ ap (λ (e : ℕ). overlay (within at e) value 0 now) size
      ∙ ap (overlay (within at (at + r.size)) value 0) before
      ∙ runs-more r.from r.size r.stride value m k

-- ---- runs that are adjacent

-- each begins where the one before ends: they are one run
runs-adjacent : (from size rows i : ℕ) → in_runs from size size rows i ≡ within from (from + rows * size) i
unfolding in_runs
runs-adjacent from size zero i = sym (rw zero-mul (within-false from (from + 0) i (λ x y. omega arith)))
runs-adjacent from size (suc n) i =
    ap (λ (b : Bool). within from (from + size) i || b) (runs-adjacent (from + size) size n i)
    ∙ within-joined from (from + size) (from + size + n * size) i (omega arith) (omega arith)
    ∙ ap (λ (e : ℕ). within from e i) (next n)
  where
    next : (n : ℕ) → from + size + n * size ≡ from + suc n * size
    next n = rw suc-mul (omega arith)

-- they end where the one run does
pub adjacent-fits : (from size stride rows len : ℕ) → size ≡ stride → from + (rows - 1) * stride + size ≤ len → from + rows * size ≤ len
adjacent-fits from size stride zero len e h = rw zero-mul (omega arith)
adjacent-fits from size stride (suc n) len e h =
    let last : suc n - 1 ≡ n = omega arith in
    let fits = rw (last, ← e) at h in
    rw suc-mul (omega arith)

pub is-joined : (r : Runs) → r.size ≡ r.stride → IsJoined r (record { start = r.start; from = r.from; size = r.rows * r.size; stride = r.stride; rows = 1 })
unfolding in_runs
is-joined r e =
    record {
      start = refl;
      same =
          λ i.
          or-false (within r.from (r.from + r.rows * r.size) i)
          ∙ sym (runs-adjacent r.from r.size r.rows i)
          ∙ ap (λ (s : ℕ). in_runs r.from r.size s r.rows i) e;
      end = λ len h. let fits = adjacent-fits r.from r.size r.stride r.rows len e h in rw zero-mul (omega arith);
    }

pub joined-itself : (r : Runs) → IsJoined r r
joined-itself r = record { start = refl; same = λ i. refl; end = λ len h. h }

-- what is written to joined runs is written to all of them
pub joined-overlaid : {r joined : Runs} → IsJoined r joined → (v : ℕ → ℕ) (m : List ℕ) → overlay (is_in joined) v 0 m ≡ overlay (is_in r) v 0 m
joined-overlaid {r} {joined} j v m = overlay-cong (is_in joined) (is_in r) v 0 m (λ i h. j.same (0 + i))
