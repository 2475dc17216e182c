-- What the private functions of #111 promise.
use Rattle.std.specs.Prelude.{ℕ, ◌*◌, ◌/◌, ◌%◌, ◌≤◌, true, cond, List, ◌≡◌, eqb, ltb, length, take}
use Rattle.rdp_words.specs.Words.{word_at, number_in}
use Rattle.rdp_words.specs.Kinds.{words_of}
use Rattle.rdp_words.specs.Lengths.{whole_words}
use Rattle.rdp_words.specs.Grounds.{Answer}
use Rattle.rdp_command.specs.Decode.{answer}
use Rattle.rdp_check.specs.Commands.{commands_of}
use Rattle.rdp_index.specs.Index.{entries_of, index_answer, starts_at, replace_answer}

-- 1 and 2 of a list, or 0 at its words
abbrev pub size_answer : List ℕ → Answer
size_answer list =
    cond (ltb 32768 (length list)) (answer 1 4096) (cond (eqb (length list % 8) 0) (answer 0 (length list / 8)) (answer 2 (length list / 8)))

-- building into room for 64 entries: the answer, and where it is 0 the entries at the front
pub record IndexIs (list : List ℕ) (r : Answer) (made : List ℕ) : Type 0 where
  pub answers : r ≡ index_answer list
  pub entries : r.number ≡ 0 → take (2 * r.place) made ≡ entries_of list
  pub few : r.number ≡ 0 → r.place ≤ 64

-- a new command that can be put at a place
pub record Fitting (list es : List ℕ) (place : ℕ) (new : List ℕ) : Type 0 where
  pub whole : (index_answer list).number ≡ 0
  pub room : (index_answer list).place ≤ length es / 2
  pub starts : starts_at place 0 (commands_of list) ≡ true
  pub some : whole_words new ≡ 0 → ⊥
  pub equal : whole_words new ≡ words_of (number_in (word_at list place))

pub record ReplacementIs (list es : List ℕ) (place : ℕ) (new : List ℕ) (r : Answer) : Type 0 where
  pub answers : r ≡ replace_answer list es place new
  pub fits : r.number ≡ 0 → Fitting list es place new
