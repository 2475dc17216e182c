-- Document 01, refusal 3: the first command of a list.
use Rattle.std.specs.Prelude.{cond, List, [], ◌∷◌, ℕ, eqb, ltb, Option, Some, None, Result, Ok, Err}
use Rattle.rdp_words.specs.Words.{word_at}
use Rattle.rdp_words.specs.Lengths.{first_number, whole_words}
use Rattle.rdp_command.specs.Layout.{layout}
use Rattle.rdp_command.specs.Fields.{fields_of}
use Rattle.rdp_command.specs.Commands.{command_of}
use Rattle.rdp_command.specs.declared.Base.{Base}
use Rattle.rdp_command.specs.declared.Command.{Command}
use Rattle.rdp_words.specs.Grounds.{Answer, answered}
use Rattle.rdp_words.specs.declared.grounds.Refusal.{Refusal}

-- word k of a command of n words; 0 for one that it does not have
abbrev pub own_word : List ℕ → ℕ → ℕ → ℕ
own_word bs n k = cond (ltb k n) (word_at bs k) 0

-- the words that hold the fields of a command of n words
abbrev pub own_words : List ℕ → ℕ → List ℕ
own_words bs n = word_at bs 0 ∷ own_word bs n 1 ∷ own_word bs n 2 ∷ own_word bs n 3 ∷ []

-- the command of a number out of its words
abbrev pub command_in : ℕ → List ℕ → Command
command_in n ws = command_of n (fields_of (layout n) ws)

-- a number and a place
abbrev pub answer : ℕ → ℕ → Answer
answer number place = record { number = number; place = place }

-- what decoding answers in the papers' numbers: a command, or a refusal with its place
pub data Decoded : Type 0 where
  Whole : Command → Decoded
  Refused : Answer → Decoded

abbrev pub decoded : Result Command Refusal → Decoded
decoded (Ok command) = Whole command
decoded (Err refusal) = Refused (answered (Err refusal))

-- what decoding answers: 3 at 0 where the words of the first command are not all there, else the command
unfoldable pub decode_of : List ℕ → Decoded
decode_of bs =
    cond (eqb (whole_words bs) 0) (Refused (answer 3 0))
    (Whole (command_in (first_number bs) (own_words bs (whole_words bs))))

abbrev pub words_in : Base → List ℕ
words_in b = b.w0 ∷ b.w1 ∷ b.w2 ∷ b.w3 ∷ []

-- the command of a base, or what stands for none
abbrev pub command_or : {E : Type 0} → Option Base → E → Result Command E
command_or None e = Err e
command_or (Some b) e = Ok (command_in b.number (words_in b))

-- the command of a base, or a refusal at 0
abbrev pub decoded_from : ℕ → Option Base → Decoded
decoded_from refusal None = Refused (answer refusal 0)
decoded_from refusal (Some b) = Whole (command_in b.number (words_in b))
