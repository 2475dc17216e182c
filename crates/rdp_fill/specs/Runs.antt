-- The kept pixels of a fill as runs of bytes, a run for each kept row. No public contract cites this.
use Rattle.std.specs.Prelude.{◌≡◌, ℕ, zero, suc, ◌+◌, ◌-◌, ◌*◌, ◌/◌, ◌≤◌, Bool, false, cond, ◌&&◌, ◌||◌, leb, eqb}
use Rattle.rdp_fill.specs.declared.run.Runs.{Runs}
use Rattle.rdp_command.specs.declared.FillFields.{FillFields}
use Rattle.rdp_fill.specs.Fill.{bytes_per_pixel, pixel_address}
use Rattle.rdp_pixels.specs.Kept.{first_kept, end_kept, kept_from}
use Rattle.rdp_pixels.specs.Overlay.{within}

-- i is in one of some runs of `size` numbers, the first of which begins at `from` and each next one `stride` on
unfoldable pub in_runs : ℕ → ℕ → ℕ → ℕ → ℕ → Bool
in_runs from size stride zero i = false
in_runs from size stride (suc rows) i = within from (from + size) i || in_runs (from + stride) size stride rows i

-- the same of the runs of bytes of memory
abbrev pub is_in : Runs → ℕ → Bool
is_in r = in_runs r.from r.size r.stride r.rows

-- they end by index `end`
abbrev pub Fit : Runs → ℕ → Type 0
Fit r end = r.from + (r.rows - 1) * r.stride + r.size ≤ end

-- runs of the same bytes, which end no later
pub record IsJoined (r joined : Runs) : Type 0 where
  pub start : joined.start ≡ r.start
  pub same : (i : ℕ) → is_in joined i ≡ is_in r i
  pub end : (len : ℕ) → Fit r len → Fit joined len

-- the kept columns and rows of a fill
abbrev pub first_column : FillFields → ℕ
first_column f = first_kept f.rectangle.upper_left.x f.scissor.upper_left.x

abbrev pub end_column : FillFields → ℕ
end_column f = end_kept f.rectangle.lower_right.x f.scissor.lower_right.x

abbrev pub first_row : FillFields → ℕ
first_row f = first_kept f.rectangle.upper_left.y f.scissor.upper_left.y

abbrev pub end_row : FillFields → ℕ
end_row f = end_kept f.rectangle.lower_right.y f.scissor.lower_right.y

-- with field set every second row is kept, from the first that is
abbrev pub first_kept_row : FillFields → ℕ
first_kept_row f = kept_from f.scissor.«field» f.scissor.odd (first_row f)

unfoldable pub kept_rows : FillFields → ℕ
kept_rows f = cond f.scissor.«field» ((end_row f - first_kept_row f + 1) / 2) (end_row f - first_kept_row f)

-- from a kept row to the next, in rows and in bytes
unfoldable pub row_step : FillFields → ℕ
row_step f = cond f.scissor.«field» 2 1

abbrev pub stride_of : FillFields → ℕ
stride_of f = row_step f * ((f.image.width + 1) * bytes_per_pixel f.image.size)

-- the bytes of the kept pixels of a row
abbrev pub run_bytes : FillFields → ℕ
run_bytes f = (end_column f - first_column f) * bytes_per_pixel f.image.size

-- the bytes of the kept pixels of a fill: `rows` runs of `size` bytes each, the first at the address `first`, each next one `stride` bytes on
pub record Area : Type 0 where
  pub first : ℕ
  pub size : ℕ
  pub stride : ℕ
  pub rows : ℕ

unfoldable pub area_of : FillFields → Area
area_of f =
    record {
      first = pixel_address f.image (first_column f) (first_kept_row f);
      size = run_bytes f;
      stride = stride_of f;
      rows = kept_rows f;
    }

-- far below what a sum or a product of two could wrap at
pub record SmallArea (area : Area) : Type 0 where
  pub first : area.first ≤ 17179869184
  pub size : area.size ≤ 65536
  pub stride : area.stride ≤ 1048576
  pub rows : area.rows ≤ 16384

-- no byte is in a run
abbrev pub area_empty : Area → Bool
area_empty area = eqb area.size 0 || eqb area.rows 0

-- every run lies in the `len` bytes from address `start` on
unfoldable pub area_inside : Area → ℕ → ℕ → Bool
area_inside area start len =
    area_empty area
    || (leb start area.first && leb (area.first + (area.rows - 1) * area.stride + area.size) (start + len))

-- its runs by the indices of memory that starts at an address
abbrev pub runs_from : ℕ → Area → Runs
runs_from start area = record { start = start; from = area.first - start; size = area.size; stride = area.stride; rows = area.rows }
