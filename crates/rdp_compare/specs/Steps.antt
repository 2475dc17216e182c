-- What the comparison carries on its way. No public contract cites this.
use Rattle.std.specs.Prelude.{ℕ, ◌+◌, ◌/◌, ◌≤◌, cond, ◌≡◌, ◌⊎◌, List, [], ◌∷◌, Option, Some, None, MatchOption, length}
use Rattle.rdp_check.specs.Commands.{commands_of}
use Rattle.rdp_words.specs.Kinds.{words_of}
use Rattle.rdp_words.specs.Lengths.{first_number}
use Rattle.rdp_words.specs.Grounds.{Answer}
use Rattle.rdp_command.specs.Decode.{answer}
use Rattle.rdp_check.specs.Order.{first_of}
use Rattle.rdp_compare.specs.Differing.{differing_fields}
use Rattle.rdp_compare.specs.Entries.{differ, pair_entries, decode_grounds, compare_answer}
use Rattle.rdp_compare.specs.Part.{RestStart, longer_from, longer_in}
use Rattle.rdp_compare.specs.Places.{OneCommand}
use Rattle.rdp_compare.specs.declared.pairs.Pair.{Pair}
use Rattle.rdp_compare.specs.declared.pairs.Pairs.{Pairs}

-- the first of the grounds of a list that holds, or 0 and the words of the list
abbrev pub decode_answer : List ℕ → Answer
decode_answer list = first_of (decode_grounds list) (answer 0 (length list / 8))

-- two commands of one number
pub record Alike (c d : List ℕ) (n : ℕ) : Type 0 where
  pub one : OneCommand c
  pub two : OneCommand d
  pub first : n ≡ first_number c
  pub second : n ≡ first_number d

-- the fields in which two commands differ, or none where they don't
abbrev pub difference : List ℕ → List ℕ → Option ℕ
difference c d = cond (differ c d) (Some (differing_fields c d)) None

-- a list is at its end
abbrev pub Over : Pairs → Type 0
Over p = (commands_of p.first.0.now ≡ []) ⊎ (commands_of p.second.0.now ≡ [])

-- the next pair, and the places after it
pub record Turns (s : Pairs) (p : Pair) (t : Pairs) : Type 0 where
  pub first : commands_of s.first.0.now ≡ p.first.now ∷ commands_of t.first.0.now
  pub second : commands_of s.second.0.now ≡ p.second.now ∷ commands_of t.second.0.now
  pub a : p.a ≡ s.a
  pub b : p.b ≡ s.b
  pub after_a : t.a ≡ s.a + words_of (first_number p.first.now)
  pub after_b : t.b ≡ s.b + words_of (first_number p.second.now)

abbrev pub Turn : Pairs → Option Pair → Pairs → Type 0
Turn s r t = MatchOption r ((t ≡ s) × Over s) (λ p. Turns s p t)

-- where the rest begins after pairs, of lists the first of which ends at this byte
abbrev pub rest_in : ℕ → Pairs → RestStart
rest_in end p = longer_from end p.a p.b (commands_of p.first.0.now) (commands_of p.second.0.now)

-- both lists are short enough, and there is room for so many numbers, those of their entries; the rest begins after the pairs
pub record Counted (first second : List ℕ) (room count : ℕ) (p : Pairs) : Type 0 where
  pub one : length first ≤ 32768
  pub two : length second ≤ 32768
  pub needed : count ≡ length (pair_entries first second)
  pub fits : count ≤ room
  pub answers : answer 0 count ≡ compare_answer first second room
  pub over : Over p
  pub rest : rest_in (length first) p ≡ longer_in first second
