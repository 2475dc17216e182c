-- What the code carries, as the definitions have it. No public contract cites this.
use Rattle.std.specs.Prelude.{ℕ, ◌+◌, ◌-◌, ◌*◌, ◌≤◌, Bool, false, cond, List, [], ◌≡◌}
use Rattle.rdp_texels.specs.declared.bytes.Run.{Run}
use Rattle.rdp_texels.specs.declared.grids.Window.{Window}
use Rattle.rdp_texels.specs.declared.grids.Texels.{Texels}
use Rattle.rdp_texels.specs.Texels.{Move}
use Rattle.rdp_texels.specs.Run.{part}
use Rattle.rdp_texels.specs.Rows as rows
use Rattle.rdp_texels.specs.Rows.{Grid, Span, grid_address, grid_ahead, grid_odd, row_moves, kept_moves, keeps}

abbrev pub gridded : Texels → Grid
gridded t =
    record {
      address = t.memory.base;
      pitch = t.memory.stride;
      start = t.memory.low;
      ahead = t.texture.base;
      line = t.texture.stride;
      behind = t.texture.low;
      turn = t.turn;
    }

abbrev pub spanned : Window → Span
spanned w = record { left = w.left; right = w.right; top = w.top; bottom = w.bottom; «field» = w.«field»; odd = w.odd }

-- the moves of a row, and of the rows from one on
abbrev pub row_of : Texels → ℕ → List Move
row_of t y = cond (keeps (spanned t.window) y) (row_moves (gridded t) (spanned t.window) y) []

abbrev pub rows_from : Texels → ℕ → List Move
rows_from t y = kept_moves (keeps (spanned t.window)) (gridded t) (spanned t.window) y

abbrev pub Ready : Bool → Texels → ℕ → ℕ → Type 0
Ready into t from to = rows.Ready into (gridded t) (spanned t.window) from to

-- ---- runs

-- all its bytes are there, and the texture memory that it goes into, or comes out of, has 4,096
pub record RunFits (into : Bool) (r : Run) (from to : ℕ) : Type 0 where
  pub size : cond into to from ≡ 4096
  pub source : r.s + r.n ≤ from
  pub target : r.d + r.n ≤ to

abbrev pub run_moved : Bool → Run → List ℕ → List ℕ → List ℕ
run_moved into r from to = part (cond into r.odd false) (cond into false r.odd) r.s r.d 0 r.n from to

-- row y of a grid
abbrev pub row_run : Bool → Grid → Span → ℕ → Run
row_run into g q y =
    let memory = grid_address g y q.left - g.start in
    let texture = grid_ahead g y q.left - g.behind in
    record { s = cond into memory texture; d = cond into texture memory; n = 2 * (q.right - q.left); odd = grid_odd g y }
