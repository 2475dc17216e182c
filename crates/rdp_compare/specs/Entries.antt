-- Request #110: the commands that differ between two lists, as entries of four numbers, and what the comparison answers.
use Rattle.std.specs.Prelude.{ℕ, ◌+◌, ◌/◌, ◌%◌, ◌^◌, Bool, cond, not, ◌||◌, List, [], ◌∷◌, ◌++◌, eqb, ltb, length}
use Rattle.rdp_words.specs.Words.{overwrite}
use Rattle.rdp_words.specs.Kinds.{words_of}
use Rattle.rdp_words.specs.Lengths.{first_number}
use Rattle.rdp_words.specs.Grounds.{Answer}
use Rattle.rdp_command.specs.Decode.{answer}
use Rattle.rdp_check.specs.Commands.{commands_of}
use Rattle.rdp_check.specs.Order.{Ground, ground, first_of}
use Rattle.rdp_check.specs.Check.{no_refusals}
use Rattle.rdp_check.specs.Refusals.{grounds_of}
use Rattle.rdp_compare.specs.Differing.{differing_fields}

-- "differ in number or a field (other bits don't count)"; a command is the bytes of its words
abbrev pub differ : List ℕ → List ℕ → Bool
differ c d = not (eqb (first_number c) (first_number d)) || not (eqb (differing_fields c d) 0)

-- "four an entry: the two places, then 64 bits, high half first"; no entry where the commands don't differ
abbrev pub entry_with : Bool → ℕ → ℕ → ℕ → List ℕ
entry_with differs a b mask = cond differs (a ∷ b ∷ mask / 2 ^ 32 ∷ mask % 2 ^ 32 ∷ []) []

abbrev pub pair_entry : ℕ → ℕ → List ℕ → List ℕ → List ℕ
pair_entry a b c d = entry_with (differ c d) a b (differing_fields c d)

-- "by index from the first command": the entries of two lists of commands, which begin at places a and b
unfoldable pub pair_entries_from : ℕ → ℕ → List (List ℕ) → List (List ℕ) → List ℕ
pair_entries_from a b [] ds = []
pair_entries_from a b (c ∷ cs) [] = []
pair_entries_from a b (c ∷ cs) (d ∷ ds) = pair_entry a b c d ++ pair_entries_from (a + words_of (first_number c)) (b + words_of (first_number d)) cs ds

abbrev pub pair_entries : List ℕ → List ℕ → List ℕ
pair_entries first second = pair_entries_from 0 0 (commands_of first) (commands_of second)

-- "lists that decode (grounds 1, 2 and 3 refuse)": those of the check, which allows 4,096 words, with no refusal of a command among them (`grounds-are`)
abbrev pub decode_grounds : List ℕ → List (Ground Answer)
decode_grounds = grounds_of 4096 no_refusals

-- "14 comes last, its place the numbers needed"
abbrev pub room_grounds : ℕ → ℕ → List (Ground Answer)
room_grounds room needed = ground (answer 14 needed) (ltb room needed) ∷ []

-- "the first list first"; "Success gives 0 and the numbers written". The room is the length of the lent buffer
unfoldable pub compare_answer : List ℕ → List ℕ → ℕ → Answer
compare_answer first second room =
    first_of (decode_grounds first ++ (decode_grounds second ++ room_grounds room (length (pair_entries first second)))) (answer 0 (length (pair_entries first second)))

-- the lent buffer afterwards: at 0 with the entries at its front, and untouched beyond them; else untouched
unfoldable pub entries_after : List ℕ → List ℕ → List ℕ → List ℕ
entries_after first second old =
    cond (eqb (compare_answer first second (length old)).number 0) (overwrite (pair_entries first second) old) old
