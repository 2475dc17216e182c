-- Document 02, #103: a list judged on from where it stands, with the registers as words.
use Rattle.std.specs.Prelude.{ℕ, zero, suc, ◌+◌, ◌%◌, ◌^◌, false, cond, ◌||◌, List, [], ◌∷◌, ltb, eqb, length, replicate}
use Rattle.rdp_words.specs.Words.{word_at}
use Rattle.rdp_words.specs.Kinds.{words_of}
use Rattle.rdp_words.specs.Lengths.{first_number}
use Rattle.rdp_hazards.specs.Hazards.{next_of}
use Rattle.rdp_hazards.specs.Syncs.{command_wait}
use Rattle.rdp_check.specs.Commands.{commands_of}
use Rattle.rdp_check.specs.Check.{State, check_refusals, refusal_at}
use Rattle.rdp_state.specs.RegisterWords.{words_after, registers_in}
use Rattle.rdp_state.specs.declared.Standing.{Standing}
use Rattle.rdp_state.specs.declared.Resumed as told
use Rattle.rdp_words.specs.Grounds.{answered}

-- where a list stands, the number of the first refusal, 0 where no command is refused, and its place, or that after the last whole command
pub record Resumed : Type 0 where
  pub standing : Standing
  pub number : ℕ
  pub place : ℕ

-- what is told of them, in the papers' numbers
abbrev pub resumed_in : told.Resumed → Resumed
resumed_in r = record { standing = r.standing; number = (answered r.outcome).number; place = (answered r.outcome).place }

-- the state there: the registers are those of the words
abbrev pub state_in : Standing → State
state_in b = record { hazards = b.hazards; ended = b.ended; registers = registers_in b.words }

-- a list starts idle, no word has set a register, and none has waited
abbrev pub idle : Standing
idle = record { words = replicate 32 0; hazards = 0; ended = false; waited = 0 }

-- #105: the cycles waited, with those of one more command; a number of 32 bits
abbrev pub waited_after : ℕ → ℕ → ℕ
waited_after waited n = (waited + command_wait n) % 2 ^ 32

-- after a command: its first word is stored where it sets a register
unfoldable pub standing_after : Standing → List ℕ → Standing
standing_after b c =
    record {
      words = words_after b.words (first_number c) (word_at c 0);
      hazards = next_of b.hazards (first_number c);
      ended = eqb (first_number c) 0x29 || b.ended;
      waited = waited_after b.waited (first_number c);
    }

abbrev pub resumed_at : ℕ → ℕ → Standing → Resumed
resumed_at number place b = record { standing = b; number = number; place = place }

abbrev pub settle_in : ℕ → ℕ → Standing → Resumed → Resumed
settle_in zero at b next = next
settle_in (suc refusal) at b next = resumed_at (suc refusal) at b

-- the commands from a place on, in order, each judged as the check judges it in the state there
unfoldable pub judge_in : Standing → ℕ → List (List ℕ) → Resumed
judge_in b at [] = resumed_at 0 at b
judge_in b at (c ∷ cs) =
    settle_in (refusal_at check_refusals (state_in b) c) at b (judge_in (standing_after b c) (at + words_of (first_number c)) cs)

-- the whole commands of bytes; 1: over 32,768 bytes, at 4,096, and none is judged
unfoldable pub resumed_of : Standing → List ℕ → Resumed
resumed_of b bs = cond (ltb 32768 (length bs)) (resumed_at 1 4096 b) (judge_in b 0 (commands_of bs))
