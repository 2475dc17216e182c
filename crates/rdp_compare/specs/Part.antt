-- Request #110: the rest of the longer of two lists, as that caller's own bytes.
use Rattle.std.specs.Prelude.{ℕ, ◌+◌, ◌*◌, Bool, true, false, cond, Result, Ok, Err, List, [], ◌∷◌, ◌≡◌, eqb, length, drop}
use Rattle.std.specs.Borrow.{Bor}
use Rattle.rdp_words.specs.Kinds.{words_of}
use Rattle.rdp_words.specs.Lengths.{first_number}
use Rattle.rdp_check.specs.Commands.{commands_of}
use Rattle.rdp_compare.specs.Entries.{compare_answer}
use Rattle.rdp_words.specs.Grounds.{number_of}
use Rattle.rdp_words.specs.declared.grounds.Refusal.{Refusal}
use Rattle.rdp_compare.specs.declared.RestPlace.{RestPlace}
use Rattle.rdp_compare.specs.declared.RestPlace.TheVariants.{InFirst, InSecond}

-- a part begins so many bytes into a lent slice, in the same memory and as no copy, and ends where that ends
pub record PartFrom (part whole : Bor (List ℕ)) (start : ℕ) : Type 0 where
  pub block : part.ref_ptr.0 ≡ whole.ref_ptr.0
  pub offset : part.ref_ptr.1 ≡ whole.ref_ptr.1 + start
  pub bytes : part.now ≡ drop start whole.now

-- where the rest begins: the number of the comparison, whether the rest is of the second list, and its first byte there
pub record RestStart : Type 0 where
  pub number : ℕ
  pub second : Bool
  pub start : ℕ

-- the rest begins at this byte of the first list or of the second; the number is that of the comparison
abbrev pub in_first : ℕ → ℕ → RestStart
in_first number start = record { number = number; second = false; start = start }

abbrev pub in_second : ℕ → RestStart
in_second start = record { number = 0; second = true; start = start }

-- where the code says that it begins; a refusal stands for the end of the first list
abbrev pub rest_as : ℕ → Result RestPlace Refusal → RestStart
rest_as end (Ok (InFirst start)) = in_first 0 start
rest_as end (Ok (InSecond start)) = in_second start
rest_as end (Err refusal) = in_first (number_of refusal.ground) end

-- "When one list has more commands, the rest of the longer one": from the first command that has no partner; the lists of commands begin at places a and b.
-- "with equal counts it is the empty end of the first"
unfoldable pub longer_from : ℕ → ℕ → ℕ → List (List ℕ) → List (List ℕ) → RestStart
longer_from end a b [] [] = in_first 0 end
longer_from end a b (c ∷ cs) [] = in_first 0 (8 * a)
longer_from end a b [] (d ∷ ds) = in_second (8 * b)
longer_from end a b (c ∷ cs) (d ∷ ds) = longer_from end (a + words_of (first_number c)) (b + words_of (first_number d)) cs ds

abbrev pub longer_in : List ℕ → List ℕ → RestStart
longer_in first second = longer_from (length first) 0 0 (commands_of first) (commands_of second)

-- "a refusal hands back the empty end of the first list". The room is the length of the buffer that was lent for the entries
unfoldable pub rest_start : List ℕ → List ℕ → ℕ → RestStart
rest_start first second room =
    let number = (compare_answer first second room).number in
    cond (eqb number 0) (longer_in first second) (in_first number (length first))

-- "handed back as that caller's own bytes"
abbrev pub Handed : Bor (List ℕ) → Bor (List ℕ) → Bor (List ℕ) → RestStart → Type 0
Handed first second part r = PartFrom part (cond r.second second first) r.start
