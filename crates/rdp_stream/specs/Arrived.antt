-- Document 02, #103: the refusals of a list that has arrived and is closed. "Commands complete within the first 32,768 bytes are judged first, then 1; at
-- closing, 2, then 3."
use Rattle.std.specs.Prelude.{ℕ, ◌/◌, ◌%◌, ◌<◌, not, List, [], ◌∷◌, ◌++◌, ◌≡◌, eqb, ltb, length, take}
use Rattle.rdp_words.specs.Grounds.{Answer}
use Rattle.rdp_command.specs.Decode.{answer}
use Rattle.rdp_check.specs.Order.{Ground, ground, IsFirst}
use Rattle.rdp_check.specs.Commands.{commands_of, rest_of, words_in, joined}
use Rattle.rdp_check.specs.Check.{start, check_refusals}
use Rattle.rdp_check.specs.Refusals.{CommandHolds, is_some, command_grounds}

-- the bytes of the commands that are complete within the first 32,768 bytes
abbrev pub complete : List ℕ → List ℕ
complete list = joined (commands_of (take 32768 list))

-- a refusal of a list, and its place
pub data ArrivedHolds (list : List ℕ) : ℕ → ℕ → Type 0 where
  -- 4 to 9 and 19, of a command that is complete
  of_complete : (n p : ℕ) → CommandHolds check_refusals (complete list) n p → ArrivedHolds list n p
  -- 1: over 32,768 bytes
  too_long : 32768 < length list → ArrivedHolds list 1 4096
  -- 2: byte length no multiple of 8
  not_words : (length list % 8 ≡ 0 → ⊥) → ArrivedHolds list 2 (length list / 8)
  -- 3: a command runs past the end: bytes are left after the whole commands
  past_end : (rest_of list ≡ [] → ⊥) → ArrivedHolds list 3 (words_in (commands_of list))

-- in their order: those of the complete commands from the first, then 1, 2, 3
unfoldable pub late_grounds : List ℕ → List (Ground Answer)
late_grounds list =
    ground (answer 1 4096) (ltb 32768 (length list))
    ∷ ground (answer 2 (length list / 8)) (not (eqb (length list % 8) 0))
    ∷ ground (answer 3 (words_in (commands_of list))) (is_some (rest_of list))
    ∷ []

abbrev pub arrived_grounds : List ℕ → List (Ground Answer)
arrived_grounds list = command_grounds check_refusals start 0 (commands_of (complete list)) (rest_of (complete list)) ++ late_grounds list

-- number and place are 0 and the words of the list where no refusal holds, and else the first refusal that holds
abbrev pub FirstArrived : List ℕ → ℕ → ℕ → Type 0
FirstArrived list number place = IsFirst (ArrivedHolds list) (arrived_grounds list) (length list / 8) number place
