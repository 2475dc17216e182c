-- What private functions promise, on the way from a command to its numbers and from numbers to a command. No public contract cites these.
use Rattle.std.specs.Prelude.{Bool, true, ◌&&◌, cond, List, map, Some, None, ◌≡◌, ℕ, ◌*◌, ◌<◌, eqb, ltb, length}
use Rattle.rdp_words.specs.Words.{overwrite}
use Rattle.rdp_words.specs.Kinds.{words_of}
use Rattle.rdp_command.specs.Layout.{Line, layout}
use Rattle.rdp_command.specs.Fields.{Value}
use Rattle.rdp_encode.specs.Placed.{number_of_value}
use Rattle.rdp_command.specs.Commands.{number_of, values_of}
use Rattle.rdp_words.specs.Lengths.{suffix_words}
use Rattle.rdp_encode.specs.Encode.{numbers_of, number_in_row, bytes_with, answer_with, out_with}
use Rattle.rdp_encode.specs.Numbers.{values_from, numbers_fit}
use Rattle.rdp_words.specs.Grounds.{Answer}
use Rattle.rdp_command.specs.Decode.{answer}
use Rattle.rdp_command.specs.declared.Command.{Command}
use Rattle.rdp_encode.specs.declared.numbers.Numbered.{Numbered}

-- values that the lines give back from their numbers
abbrev pub GivenBack : List Line → List Value → Type 0
GivenBack ls vs = values_from ls (map number_of_value vs) ≡ vs

-- the number of a command, where it is one that it can have, and the numbers of its fields; its lines give the values back, and are as many where its
-- number is one that it can have
pub record Spread (c : Command) (r : Numbered) : Type 0 where
  pub number : r.number ≡ cond (number_in_row c) (Some (number_of c)) None
  pub numbers : r.numbers ≡ numbers_of c
  pub kept : GivenBack (layout (number_of c)) (values_of c)
  pub sized : number_in_row c ≡ true → length (layout (number_of c)) ≡ length (numbers_of c)
  pub small : number_in_row c ≡ true → number_of c < 64

-- the suffix of a command of n words
abbrev pub SuffixDue : List ℕ → ℕ → Type 0
SuffixDue suffix n = length suffix ≡ 8 * suffix_words n

-- refusal 15 by numbers: they fit, and the suffix is the words due; the answer and the output of encoding by it
abbrev pub encodable_by : ℕ → List ℕ → List ℕ → Bool
encodable_by n ns suffix = numbers_fit n ns && eqb (length suffix) (8 * suffix_words (words_of n))

abbrev pub answer_by : ℕ → List ℕ → List ℕ → List ℕ → Answer
answer_by n ns suffix out = answer_with (encodable_by n ns suffix) n out

abbrev pub out_by : ℕ → List ℕ → List ℕ → List ℕ → List ℕ
out_by n ns suffix out = out_with (encodable_by n ns suffix) n (bytes_with n ns suffix) out

-- what writing numbers answers: 14 at their count where there is no room, else 0 at it; and the output
abbrev pub values_answer : List ℕ → List ℕ → Answer
values_answer ns out = cond (ltb (length out) (length ns)) (answer 14 (length ns)) (answer 0 (length ns))

abbrev pub values_out : List ℕ → List ℕ → List ℕ
values_out ns out = cond (ltb (length out) (length ns)) out (overwrite ns out)
