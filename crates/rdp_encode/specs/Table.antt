-- The bit lines that the code reads, as the lines of the layout. No public contract cites this.
use Rattle.std.specs.Prelude.{List, [], ◌∷◌, ◌<◌, ◌≤◌}
use Rattle.rdp_command.specs.Layout.{Line, width}
use Rattle.rdp_encode.specs.declared.table.BitLine.{BitLine}

-- a bit line as the code holds it
abbrev pub line_of : BitLine → Line
line_of l = record { is_signed = l.is_signed; word = l.word; high = l.high; low = l.low }

-- a bit line that a word of a command can hold
pub record Readable (l : Line) : Type 0 where
  pub ordered : l.low ≤ l.high
  pub inside : l.high < 64
  pub narrow : width l ≤ 56

abbrev pub AllReadable : List Line → Type 0
AllReadable [] = Unit
AllReadable (l ∷ ls) = Readable l × AllReadable ls
