-- Request #110: which fields of two commands of one number differ, as a number of 64 bits. The commands are given as their bytes.
use Rattle.std.specs.Prelude.{Bool, cond, not, List, [], ◌∷◌, ◌++◌, ℕ, suc, ◌+◌, ◌^◌, eqb, leb}
use mir.Val.{bool_byte}
use Rattle.rdp_words.specs.Words.{same_bytes}
use Rattle.rdp_words.specs.Lengths.{first_number, suffix_of}
use Rattle.rdp_command.specs.Decode.{decode_of}
use Rattle.rdp_command.specs.Decode.{Decoded}
use Rattle.rdp_command.specs.Decode.{Whole, Refused}
use Rattle.rdp_encode.specs.Encode.{numbers_of}

-- the fields of a command as numbers, in the order of the wiki's bit lines; none where it does not decode
abbrev pub numbers_in : Decoded → List ℕ
numbers_in (Whole c) = numbers_of c
numbers_in (Refused a) = []

abbrev pub field_numbers : List ℕ → List ℕ
field_numbers c = numbers_in (decode_of c)

-- for each number whether it differs
unfoldable pub unlike : List ℕ → List ℕ → List Bool
unlike [] ys = []
unlike (x ∷ xs) [] = []
unlike (x ∷ xs) (y ∷ ys) = not (eqb x y) ∷ unlike xs ys

-- for each field whether two commands differ in it. "A triangle's suffix is one field, its last, and all its bits count"; that of any other command is
-- empty, and so never differs
abbrev pub fields_differ : List ℕ → List ℕ → List Bool
fields_differ c d = unlike (field_numbers c) (field_numbers d) ++ (not (same_bytes (suffix_of c) (suffix_of d)) ∷ [])

-- the bit lines of Set Other Modes that name no field (bits 54, 35:32 and 15) and stand before field k: after the first field, the 16th and the 24th
abbrev pub unnamed_before : ℕ → ℕ
unnamed_before k = bool_byte (leb 1 k) + bool_byte (leb 16 k) + bool_byte (leb 24 k)

-- "the lowest for the wiki's first bit line after the command": the index of field k among the wiki's bit lines. Those that name no field take an index each
abbrev pub line_index : ℕ → ℕ → ℕ
line_index n k = k + cond (eqb n 0x2F) (unnamed_before k) 0

-- a bit for each field that differs, from field k on
unfoldable pub bits_from : ℕ → ℕ → List Bool → ℕ
bits_from n k [] = 0
bits_from n k (b ∷ bs) = cond b (2 ^ line_index n k) 0 + bits_from n (suc k) bs

-- "which fields differ": of the same command number; "all zero when the command numbers differ"
unfoldable pub differing_fields : List ℕ → List ℕ → ℕ
differing_fields c d = cond (eqb (first_number c) (first_number d)) (bits_from (first_number c) 0 (fields_differ c d)) 0
