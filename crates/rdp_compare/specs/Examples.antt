-- Examples of the comparison: the words of two lists, the numbers that are lent, what is answered and written, and where the rest begins.
use Rattle.std.specs.Prelude.{ℕ, ◌-◌, Bool, true, false, not, ◌&&◌, List, [], ◌∷◌, ◌++◌, ◌≡◌, eqb, length, replicate}
use Rattle.rdp_words.specs.Words.{bytes_of_words, same_bytes}
use Rattle.rdp_words.specs.Grounds.{Answer}
use Rattle.rdp_command.specs.Decode.{answer}
use Rattle.rdp_compare.specs.Entries.{compare_answer, entries_after}
use Rattle.rdp_compare.specs.Part.{RestStart, in_first, in_second, rest_start}

abbrev same : Bool → Bool → Bool
same true b = b
same false b = not b

abbrev same_answer : Answer → Answer → Bool
same_answer a b = eqb a.number b.number && eqb a.place b.place

abbrev same_start : RestStart → RestStart → Bool
same_start a b = (eqb a.number b.number && same a.second b.second) && eqb a.start b.start

-- the lent numbers are 7 before, and those that are not written after
abbrev right : List ℕ → List ℕ → ℕ → Answer → List ℕ → RestStart → Bool
right first second room answered written rest =
    let old : List ℕ = replicate room 7 in
    (same_answer (compare_answer first second room) answered && same_bytes (entries_after first second old) (written ++ replicate {A = ℕ} (room - length written) 7))
    && same_start (rest_start first second room) rest

-- two rectangles that differ in dtdy, with a Set Fill Color and a Set Fog Color after them
abbrev shorter : List ℕ
shorter = 0x2400000000000000 ∷ 0x0000000000000000 ∷ 0x3700000000000000 ∷ []

abbrev longer : List ℕ
longer = 0x2400000000000000 ∷ 0x0000000000000001 ∷ 0x3800000000000000 ∷ 0x0000000000000000 ∷ []

-- a triangle with depth: four words and a suffix of two
abbrev triangle : ℕ → ℕ → ℕ → List ℕ
triangle w a b = 0x0900000000000000 ∷ 0 ∷ 0 ∷ w ∷ a ∷ b ∷ []

pub record Right : Type 0 where
  -- nothing to compare
  pub empty : right [] [] 4 (answer 0 0) [] (in_first 0 0) ≡ true
  -- of Set Other Modes, cycle_type is bit 2 and alpha_compare_en bit 39
  pub cycle-type : right (bytes_of_words (0x2F30000000000000 ∷ [])) (bytes_of_words (0x2F20000000000000 ∷ [])) 4 (answer 0 4) (0 ∷ 0 ∷ 0 ∷ 4 ∷ []) (in_first 0 8) ≡ true
  pub alpha-compare : right (bytes_of_words (0x2F30000000000000 ∷ [])) (bytes_of_words (0x2F30000000000001 ∷ [])) 5 (answer 0 4) (0 ∷ 0 ∷ 128 ∷ 0 ∷ []) (in_first 0 8) ≡ true
  -- its lines without a name do not count, nor do bits 63:62
  pub unused : right (bytes_of_words (0xEF30000000000000 ∷ [])) (bytes_of_words (0x2F70000F00008000 ∷ [])) 4 (answer 0 0) [] (in_first 0 8) ≡ true
  -- another number: no bit is set
  pub number : right (bytes_of_words (0x0000000000000000 ∷ [])) (bytes_of_words (0x0100000000000000 ∷ [])) 4 (answer 0 4) (0 ∷ 0 ∷ 0 ∷ 0 ∷ []) (in_first 0 8) ≡ true
  -- dxmdy.f is bit 20 of a triangle, its suffix bit 21
  pub suffix : right (bytes_of_words (triangle 0 1 2)) (bytes_of_words (triangle 1 1 3)) 4 (answer 0 4) (0 ∷ 0 ∷ 0 ∷ 0x300000 ∷ []) (in_first 0 48) ≡ true
  -- bit 25 counts in the address of a colour image, not in that of a texture image
  pub color-image : right (bytes_of_words (0x3F10000702000000 ∷ [])) (bytes_of_words (0x3F10000700000000 ∷ [])) 4 (answer 0 4) (0 ∷ 0 ∷ 0 ∷ 8 ∷ []) (in_first 0 8) ≡ true
  pub texture-image : right (bytes_of_words (0x3D10000702000000 ∷ [])) (bytes_of_words (0x3D10000700000000 ∷ [])) 4 (answer 0 0) [] (in_first 0 8) ≡ true
  -- 14 at the numbers needed, and the empty end of the first list
  pub no_room : right (bytes_of_words shorter) (bytes_of_words longer) 7 (answer 14 8) [] (in_first 14 24) ≡ true
  -- a rest of the second list, and of the first
  pub second-longer : right (bytes_of_words shorter) (bytes_of_words longer) 9 (answer 0 8) (0 ∷ 0 ∷ 0 ∷ 256 ∷ 2 ∷ 2 ∷ 0 ∷ 0 ∷ []) (in_second 24) ≡ true
  pub first-longer : right (bytes_of_words longer) (bytes_of_words shorter) 9 (answer 0 8) (0 ∷ 0 ∷ 0 ∷ 256 ∷ 2 ∷ 2 ∷ 0 ∷ 0 ∷ []) (in_first 0 24) ≡ true
  -- 2 of the first list before 3 of the second, and 3 of the second
  pub first-refused : right (0x31 ∷ 0x32 ∷ []) (bytes_of_words (0x2400000000000000 ∷ [])) 4 (answer 2 0) [] (in_first 2 2) ≡ true
  pub second-refused : right (bytes_of_words (0 ∷ [])) (bytes_of_words (0 ∷ 0x2400000000000000 ∷ [])) 4 (answer 3 1) [] (in_first 3 8) ≡ true
