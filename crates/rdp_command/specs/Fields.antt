-- The values of fields, read from a command's words.
use Rattle.std.specs.Prelude.{Bool, true, false, cond, List, map, ℕ, zero, suc, ◌-◌, ◌*◌, ◌/◌, ◌%◌, ◌^◌, ltb, ℤ, pos, negsuc, get_or}
use mir.Val.{bool_byte}
use Rattle.rdp_command.specs.Layout.{Line, width}

-- the value of a field
pub data Value : Type 0 where
  unsigned : ℕ → Value
  signed : ℤ → Value

-- a field of one bit
abbrev pub flag : Bool → Value
flag b = unsigned (bool_byte b)

-- n / 2 ^ k; at k = 0, n itself
abbrev pub shift_right : ℕ → ℕ → ℕ
shift_right n zero = n
shift_right n (suc k) = n / 2 ^ suc k

-- the bits of a line in a word
abbrev pub bits_at : Line → ℕ → ℕ
bits_at l w = shift_right w l.low % 2 ^ width l

-- two's complement, where half is 2 to the bits less one
unfoldable pub twos_complement : ℕ → ℕ → ℤ
twos_complement half n = cond (ltb n half) (pos n) (negsuc (2 * half - suc n))

abbrev pub value_of : Bool → ℕ → ℕ → Value
value_of false bits n = unsigned n
value_of true bits n = signed (twos_complement (2 ^ (bits - 1)) n)

-- the value of a line, out of the words of a command
abbrev pub field_at : List ℕ → Line → Value
field_at ws l = value_of l.is_signed (width l) (bits_at l (get_or ws l.word 0))

abbrev pub fields_of : List Line → List ℕ → List Value
fields_of ls ws = map (field_at ws) ls
