-- The loop over rows: what is still to come gives what was promised. Assumes nothing.
use mathlib.Core.Path.{◌≡◌, refl, sym, ap, ◌∙◌}
use mathlib.Core.Bool.{Bool, true, false, cond}
use mathlib.Core.List.{List, [], ◌++◌}
use Prim.Native.Nat.{ℕ, suc, ◌+◌, ◌-◌, ◌≤◌, ◌<◌}
use native.Mathlib.Numerals.{add-one}
use native.Mathlib.Omega.{arith}
use lib.ListN.{length}
use Rattle.rdp_texels.specs.Texels.{Move, moves_over}
use Rattle.rdp_texels.specs.Rows.{Grid, Span, keeps, moved, row_moves, kept_moves, span_some, Ready, RowStarts}
use Rattle.rdp_texels.specs.Views.{RunFits, run_moved, row_run}
use Rattle.rdp_texels.proofs.RowLaws.{moved-append, moved-none, copied-row, loaded-row}
use Rattle.rdp_texels.proofs.CornerLaws.{grid-none}
use Rattle.rdp_texels.proofs.GridLaws.{row_fits}

module _ (g : Grid) (q : Span) where
  -- no row or no column
  pub none-moved : (into : Bool) (from to : List ℕ) → span_some q ≡ false → to ≡ moved into g.start from (kept_moves (keeps q) g q q.top) to
  none-moved into from to e = rw (grid-none (keeps q) g q e) (moved-none into g.start from to)

  -- ---- a row

  module _ (y : ℕ) (low : q.top ≤ y) (high : y < q.bottom) where
    pub row-starts : (into : Bool) (from to : ℕ) → Ready into g q from to → RowStarts g q y
    row-starts into from to r = let f = row_fits r y low high in record { columns = omega (arith, r.columns); memory = f.memory; texture = f.texture }

    pub row-ready : (into : Bool) (from to : ℕ) → Ready into g q from to → RunFits into (row_run into g q y) from to
    row-ready true from to r = let f = row_fits r y low high in record { size = r.size; source = f.memory-end; target = omega (arith, f.texture-end, r.size) }
    row-ready false from to r = let f = row_fits r y low high in record { size = r.size; source = omega (arith, f.texture-end, r.size); target = f.memory-end }

    pub row-moved : (into : Bool) (from to : List ℕ) → Ready into g q (length from) (length to)
        → run_moved into (row_run into g q y) from to ≡ moved into g.start from (row_moves g q y) to
    unfolding row_moves
    row-moved true from to r =
        let f = row_fits r y low high in sym (loaded-row g.start g y q.left f.memory f.texture f.even to from r.size (q.right - q.left) f.texture-end)
    row-moved false from to r =
        let f = row_fits r y low high in sym (copied-row g.start g y q.left f.memory f.texture f.even from to (q.right - q.left) f.memory-end)

  -- ---- rows

  kept_step : (y : ℕ) → y < q.bottom → kept_moves (keeps q) g q y ≡ cond (keeps q y) (row_moves g q y) [] ++ kept_moves (keeps q) g q (y + 1)
  unfolding moves_over
  kept_step y h =
      let count : q.bottom - y ≡ suc (q.bottom - (y + 1)) = omega arith in
      rw (count, add-one y)

  kept-end : (y : ℕ) → q.bottom ≤ y → kept_moves (keeps q) g q y ≡ []
  unfolding moves_over
  kept-end y h = let count : q.bottom - y ≡ 0 = omega arith in rw count

pub record Due (into : Bool) (g : Grid) (q : Span) (from before after : List ℕ) (y : ℕ) : Type 0 where
  pub long : length after ≡ length before
  pub is : moved into g.start from (kept_moves (keeps q) g q y) after ≡ moved into g.start from (kept_moves (keeps q) g q q.top) before

module _ {into : Bool} {g : Grid} {q : Span} {from before : List ℕ} where
  pub due-first : Due into g q from before before q.top
  due-first = record { long = refl; is = refl }

  pub due-next : {after then : List ℕ} {y : ℕ} → Due into g q from before after y → y < q.bottom → length then ≡ length after
      → then ≡ moved into g.start from (cond (keeps q y) (row_moves g q y) []) after → Due into g q from before then (y + 1)
  due-next {after} {then} {y} d h long e =
      record {
        long = long ∙ d.long;
        is =
            ap (moved into g.start from (kept_moves (keeps q) g q (y + 1))) e
            ∙ sym (moved-append into g.start from (cond (keeps q y) (row_moves g q y) []) (kept_moves (keeps q) g q (y + 1)) after)
            ∙ ap (λ (ms : List Move). moved into g.start from ms after) (sym (kept_step g q y h))
            ∙ d.is;
      }

  pub due-done : {after : List ℕ} {y : ℕ} → Due into g q from before after y → q.bottom ≤ y
      → after ≡ moved into g.start from (kept_moves (keeps q) g q q.top) before
  due-done {after} {y} d h =
      moved-none into g.start from after ∙ ap (λ (ms : List Move). moved into g.start from ms after) (sym (kept-end g q y h)) ∙ d.is
