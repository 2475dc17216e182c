-- Document 01, "Grounds" and their order: when each refusal holds of a list, and the refusals of a list in their order. Both go by how many words are
-- allowed and by the refusals of a command: those of the check, those of the repair, or none.
use Rattle.std.specs.Prelude.{ℕ, ◌+◌, ◌*◌, ◌/◌, ◌%◌, ◌<◌, Bool, true, false, not, List, [], ◌∷◌, ◌++◌, ◌≡◌, eqb, ltb, length}
use Rattle.rdp_words.specs.Kinds.{words_of}
use Rattle.rdp_words.specs.Lengths.{first_number}
use Rattle.rdp_words.specs.Grounds.{Answer}
use Rattle.rdp_command.specs.Decode.{answer}
use Rattle.rdp_check.specs.Order.{Ground, ground, placed, Among, IsFirst}
use Rattle.rdp_check.specs.Commands.{commands_of, rest_of, words_in}
use Rattle.rdp_check.specs.Check.{State, start, after_command, Refusals}

-- the state after some commands
abbrev pub state_after : State → List (List ℕ) → State
state_after s [] = s
state_after s (c ∷ cs) = state_after (after_command s c) cs

-- a refusal of a list's commands, and its place
pub data CommandHolds (refusals : Refusals) (list : List ℕ) : ℕ → ℕ → Type 0 where
  -- 3: a command runs past the end: bytes are left after the whole commands
  past_end : (rest_of list ≡ [] → ⊥) → CommandHolds refusals list 3 (words_in (commands_of list))
  -- the refusals of a command, at its first word
  at_command :
      (before : List (List ℕ)) (c : List ℕ) (after : List (List ℕ)) (number : ℕ) →
      commands_of list ≡ before ++ c ∷ after → Among number (refusals (state_after start before) c) → CommandHolds refusals list number (words_in before)

-- a refusal of a list, and its place
pub data Holds (words : ℕ) (refusals : Refusals) (list : List ℕ) : ℕ → ℕ → Type 0 where
  -- 1: over the bytes of so many words
  too_long : 8 * words < length list → Holds words refusals list 1 words
  -- 2: byte length no multiple of 8
  not_words : (length list % 8 ≡ 0 → ⊥) → Holds words refusals list 2 (length list / 8)
  -- 3 and those of a command
  of_commands : (n p : ℕ) → CommandHolds refusals list n p → Holds words refusals list n p

-- no command runs past the end or is refused
abbrev pub Free : Refusals → List ℕ → Type 0
Free refusals list = (n p : ℕ) → CommandHolds refusals list n p → ⊥

abbrev pub is_some : List ℕ → Bool
is_some [] = false
is_some (b ∷ bs) = true

-- "then commands from the first": the refusals of each in their order, at its place; a command that runs past the end is the last, and has 3 alone
unfoldable pub command_grounds : Refusals → State → ℕ → List (List ℕ) → List ℕ → List (Ground Answer)
command_grounds refusals s at [] rest = ground (answer 3 at) (is_some rest) ∷ []
command_grounds refusals s at (c ∷ cs) rest =
    placed at (refusals s c) ++ command_grounds refusals (after_command s c) (at + words_of (first_number c)) cs rest

-- "Order: 1, 2; then commands from the first"
unfoldable pub grounds_of : ℕ → Refusals → List ℕ → List (Ground Answer)
grounds_of words refusals list =
    ground (answer 1 words) (ltb (8 * words) (length list))
    ∷ ground (answer 2 (length list / 8)) (not (eqb (length list % 8) 0))
    ∷ command_grounds refusals start 0 (commands_of list) (rest_of list)

-- number and place are 0 and the words of the list where no refusal holds, and else the first refusal that holds
abbrev pub FirstRefusal : ℕ → Refusals → List ℕ → ℕ → ℕ → Type 0
FirstRefusal words refusals list number place = IsFirst (Holds words refusals list) (grounds_of words refusals list) (length list / 8) number place
