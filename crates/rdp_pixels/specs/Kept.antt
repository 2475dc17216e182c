-- Document 01, "Fill": the pixels that a scissor keeps, for fills and for copies (#106: "coverage, scissor .. are as for fill").
use Rattle.std.specs.Prelude.{ℕ, ◌+◌, ◌*◌, ◌/◌, ◌%◌, min, max, Bool, true, cond, ◌&&◌, eqb}
use Rattle.rdp_command.specs.declared.Scissor.{Scissor}
use Rattle.rdp_pixels.specs.Overlay.{within}

-- "with field set, when y mod 2 equals odd", by the scissor's two flags
unfoldable pub line_kept : Bool → Bool → ℕ → Bool
line_kept «field» odd y = cond «field» (eqb (y % 2) (cond odd 1 0)) true

abbrev pub row_kept : Scissor → ℕ → Bool
row_kept s y = line_kept s.«field» s.odd y

-- "a pixel (x, y) is kept when 4x and 4y are at least the scissor's upper left and below its lower right"
unfoldable pub kept : Scissor → ℕ → ℕ → Bool
kept s x y =
    (within s.upper_left.x s.lower_right.x (4 * x) && within s.upper_left.y s.lower_right.y (4 * y)) && row_kept s y

-- ---- The columns, or the rows, of a rectangle inside a scissor, in quarter pixels: from the first up to, not including, the end.

abbrev pub first_kept : ℕ → ℕ → ℕ
first_kept near clip = max (near / 4) ((clip + 3) / 4)

abbrev pub end_kept : ℕ → ℕ → ℕ
end_kept far clip = min (far / 4 + 1) ((clip + 3) / 4)

-- the first row from y on that the scissor's field setting keeps: with field set, of two rows in a row one is kept
unfoldable pub kept_from : Bool → Bool → ℕ → ℕ
kept_from «field» odd y = cond (line_kept «field» odd y) y (y + 1)
