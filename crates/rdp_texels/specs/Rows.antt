-- The moves as rows of texels, each row one run of bytes. No public contract cites this.
use Rattle.std.specs.Prelude.{ℕ, ◌+◌, ◌-◌, ◌*◌, ◌/◌, ◌%◌, ◌≤◌, ◌<◌, Bool, true, false, cond, ◌&&◌, List, [], ◌∷◌, ◌≡◌, eqb, leb, ltb, drop}
use Rattle.rdp_pixels.specs.Kept.{line_kept, first_kept, end_kept, kept_from}
use Rattle.rdp_command.specs.declared.LoadFields.{LoadFields}
use Rattle.rdp_command.specs.declared.CopyFields.{CopyFields}
use Rattle.rdp_texels.specs.Texels.{Move, ahead_of, behind_of, moves_over, loaded, copied}
use Rattle.rdp_texels.specs.Run.{part}

-- ---- bytes in groups of eight

-- n bytes from index s on of `from` to index d on of `to`, where the halves of each eight exchange places: byte j is taken from byte j with its bit 2 turned
-- over
abbrev pub exchanged : ℕ → ℕ → ℕ → List ℕ → List ℕ → List ℕ
exchanged s d n from to = part false true 0 d 0 n (drop s from) to

-- ---- moves into texture memory, or out of it

abbrev pub moved : Bool → ℕ → List ℕ → List Move → List ℕ → List ℕ
moved true start from ms to = loaded start from ms to
moved false start from ms to = copied start from ms to

-- ---- a grid of texels: each column is 2 bytes on, each row `pitch` bytes of memory and `line` bytes of texture memory on

-- memory address `address + y pitch + 2 x` in memory that starts at `start`, texture byte `ahead + y line + 2 x - behind`, turned where y + turn is odd
pub record Grid : Type 0 where
  pub address : ℕ
  pub pitch : ℕ
  pub start : ℕ
  pub ahead : ℕ
  pub line : ℕ
  pub behind : ℕ
  pub turn : ℕ

-- columns from `left` up to `right`, and rows from `top` up to `bottom`, the ends not included; with `field` set, of these only the odd or the even ones
pub record Span : Type 0 where
  pub left : ℕ
  pub right : ℕ
  pub top : ℕ
  pub bottom : ℕ
  pub «field» : Bool
  pub odd : Bool

abbrev pub keeps : Span → ℕ → Bool
keeps q y = line_kept q.«field» q.odd y

abbrev pub grid_address : Grid → ℕ → ℕ → ℕ
grid_address g y x = g.address + y * g.pitch + 2 * x

abbrev pub grid_ahead : Grid → ℕ → ℕ → ℕ
grid_ahead g y x = g.ahead + y * g.line + 2 * x

abbrev pub grid_odd : Grid → ℕ → Bool
grid_odd g y = eqb ((y + g.turn) % 2) 1

abbrev pub grid_move : Grid → ℕ → ℕ → Move
grid_move g y x = record { address = grid_address g y x; ahead = grid_ahead g y x; behind = g.behind; odd = grid_odd g y }

unfoldable pub row_moves : Grid → Span → ℕ → List Move
row_moves g q y = moves_over q.left (q.right - q.left) (λ x. grid_move g y x ∷ [])

-- the rows of a span that a test keeps, from row y on
abbrev pub kept_moves : (ℕ → Bool) → Grid → Span → ℕ → List Move
kept_moves keeps g q y = moves_over y (q.bottom - y) (λ y. cond (keeps y) (row_moves g q y) [])

-- the grid of an image at an address, with a tile's texels from row `down` less `up` and column `right` less `left` on
abbrev pub grid_of : ℕ → ℕ → ℕ → ℕ → ℕ → ℕ → ℕ → ℕ → ℕ → Grid
grid_of start address width tmem line down right up left =
    record {
      address = address;
      pitch = 2 * (width + 1);
      start = start;
      ahead = 8 * tmem + (8 * (line * down) + 2 * right);
      line = 8 * line;
      behind = 8 * (line * up) + 2 * left;
      turn = down + up;
    }

abbrev pub load_grid : ℕ → LoadFields → Grid
load_grid start l =
    let d = l.tile in
    grid_of start l.image.address l.image.width d.address d.line 0 0 (l.area.upper_left.t / 4) (l.area.upper_left.s / 4)

abbrev pub load_span : LoadFields → Span
load_span l =
    record {
      left = l.area.upper_left.s / 4;
      right = l.area.lower_right.s / 4 + 1;
      top = l.area.upper_left.t / 4;
      bottom = l.area.lower_right.t / 4 + 1;
      «field» = false;
      odd = false;
    }

-- the rows and the columns that a copy rectangle's texel numbers begin below 0
abbrev pub rows_up : CopyFields → ℕ
rows_up c = behind_of c.rectangle.step.t / 32 + c.rectangle.upper_left.y / 4 + c.tile_corner.t / 4

abbrev pub columns_left : CopyFields → ℕ
columns_left c = behind_of c.rectangle.step.s / 32 + c.rectangle.upper_left.x / 4 + c.tile_corner.s / 4

abbrev pub copy_grid : ℕ → CopyFields → Grid
copy_grid start c =
    let d = c.tile in
    grid_of start c.image.address c.image.width d.address d.line
    (ahead_of c.rectangle.step.t / 32) (ahead_of c.rectangle.step.s / 32) (rows_up c) (columns_left c)

-- the end of the rows before one that the scissor's field setting keeps
abbrev pub bottom_from : Bool → Bool → ℕ → ℕ
bottom_from «field» odd y = cond (line_kept «field» odd (y - 1)) y (y - 1)

abbrev pub copy_span : CopyFields → Span
copy_span c =
    let r = c.rectangle in
    let s = c.scissor in
    record {
      left = first_kept r.upper_left.x s.upper_left.x;
      right = end_kept r.lower_right.x s.lower_right.x;
      top = kept_from s.«field» s.odd (first_kept r.upper_left.y s.upper_left.y);
      bottom = bottom_from s.«field» s.odd (end_kept r.lower_right.y s.lower_right.y);
      «field» = s.«field»;
      odd = s.odd;
    }

-- ---- refusals by the corners

abbrev pub span_some : Span → Bool
span_some q = ltb q.left q.right && ltb q.top q.bottom

-- from the first texel's first byte to the last one's last, all are among the `size` bytes from `low` on
abbrev pub lies : ℕ → ℕ → Span → ℕ → ℕ → Bool
lies base stride q low size =
    leb low (base + q.top * stride + 2 * q.left) && leb (base + (q.bottom - 1) * stride + 2 * q.right) (low + size)

abbrev pub corners_refusal : Grid → Span → ℕ → ℕ
corners_refusal g q len =
    cond (span_some q) (cond (lies g.address g.pitch q g.start len) (cond (lies g.ahead g.line q g.behind 4096) 0 18) 12) 0

-- texels begin at even bytes
pub record EvenGrid (g : Grid) : Type 0 where
  pub ahead : g.ahead % 2 ≡ 0
  pub line : g.line % 2 ≡ 0
  pub behind : g.behind % 2 ≡ 0

-- ---- a grid of which every row fits

pub record Ready (into : Bool) (g : Grid) (q : Span) (from to : ℕ) : Type 0 where
  pub size : cond into to from ≡ 4096
  pub columns : q.left < q.right
  pub rows : q.top < q.bottom
  pub memory : lies g.address g.pitch q g.start (cond into from to) ≡ true
  pub texture : lies g.ahead g.line q g.behind 4096 ≡ true
  pub even : EvenGrid g

-- the first texel of a row is not before memory or texture memory
pub record RowStarts (g : Grid) (q : Span) (y : ℕ) : Type 0 where
  pub columns : q.left ≤ q.right
  pub memory : g.start ≤ grid_address g y q.left
  pub texture : g.behind ≤ grid_ahead g y q.left
