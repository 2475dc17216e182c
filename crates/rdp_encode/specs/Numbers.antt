-- A command as its number and its fields as 64-bit numbers, in the order of the layout, and back.
use Rattle.std.specs.Prelude.{Bool, true, false, cond, ◌&&◌, List, [], ◌∷◌, ℕ, ◌/◌, ◌%◌, eqb, ltb, length, get_or}
use Rattle.std.specs.Int.{w64}
use Rattle.std.proofs.Common.{to_z}
use Rattle.rdp_words.specs.Words.{overwrite}
use Rattle.rdp_command.specs.Layout.{Line, layout}
use Rattle.rdp_command.specs.Fields.{Value, unsigned, signed}
use Rattle.rdp_encode.specs.Placed.{all_fit}
use Rattle.rdp_command.specs.Commands.{command_of}
use Rattle.rdp_encode.specs.Encode.{numbers_of}
use Rattle.rdp_words.specs.Grounds.{Answer}
use Rattle.rdp_command.specs.declared.Command.{Command}
use Rattle.rdp_command.specs.Decode.{Decoded}
use Rattle.rdp_command.specs.Decode.{Whole, Refused}

-- what writing a command's fields answers: 14 at the count needed, else 0 and the count
unfoldable pub fields_answer : Command → List ℕ → Answer
fields_answer c out =
    cond (ltb (length out) (length (numbers_of c))) (record { number = 14; place = length (numbers_of c) })
    (record { number = 0; place = length (numbers_of c) })

unfoldable pub fields_out : Command → List ℕ → List ℕ
fields_out c out = cond (ltb (length out) (length (numbers_of c))) out (overwrite (numbers_of c) out)

-- a number as the value of a line
abbrev pub value_from : Bool → ℕ → Value
value_from false n = unsigned n
value_from true n = signed (to_z w64 n)

abbrev pub values_from : List Line → List ℕ → List Value
values_from ls [] = []
values_from [] (n ∷ ns) = []
values_from (l ∷ ls) (n ∷ ns) = value_from l.is_signed n ∷ values_from ls ns

-- each number within the bits of its line
abbrev pub each_fits : List Line → List ℕ → Bool
each_fits ls ns = all_fit ls (values_from ls ns)

-- as many numbers as bit lines, each within its bits
unfoldable pub numbers_fit : ℕ → List ℕ → Bool
numbers_fit n ns = eqb (length ns) (length (layout n)) && each_fits (layout n) ns

-- the flags of a triangle are those of its number
abbrev pub flags_agree : ℕ → List ℕ → Bool
flags_agree n ns =
    cond (eqb (n / 8) 1) ((eqb (get_or ns 0 0) (n / 4 % 2) && eqb (get_or ns 1 0) (n / 2 % 2)) && eqb (get_or ns 2 0) (n % 2)) true

-- the command of a number and its fields, or 15 at 0: a number of 64 or more, a wrong count, a field beyond its bits, flags that are not the number's
unfoldable pub from_numbers : ℕ → List ℕ → Decoded
from_numbers n ns =
    cond (ltb n 64 && (numbers_fit n ns && flags_agree n ns)) (Whole (command_of n (values_from (layout n) ns)))
    (Refused (record { number = 15; place = 0 }))
