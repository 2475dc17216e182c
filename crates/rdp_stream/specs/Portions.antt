-- Document 02, #103: a list that arrives in portions, as its bytes are taken one after the other.
use Rattle.std.specs.Prelude.{ℕ, zero, suc, ◌+◌, ◌-◌, ◌/◌, ◌%◌, cond, not, List, [], ◌∷◌, ◌++◌, eqb, ltb, length}
use Rattle.rdp_words.specs.Lengths.{whole_words}
use Rattle.rdp_words.specs.Grounds.{Answer}
use Rattle.rdp_command.specs.Decode.{answer}
use Rattle.rdp_check.specs.Order.{Ground, ground, first_of}
use Rattle.rdp_check.specs.Check.{check_refusals, refusal_at}
use Rattle.rdp_state.specs.Resume.{state_in, idle, standing_after}
use Rattle.rdp_state.specs.declared.Standing.{Standing}

-- what is known after some bytes: where the list stands after the commands accepted, the bytes of a command not yet complete, the number of bytes taken,
-- and the remembered refusal, its number 0 where there is none
pub record Feeding : Type 0 where
  pub standing : Standing
  pub held : List ℕ
  pub taken : ℕ
  pub number : ℕ
  pub place : ℕ

-- "a fresh, idle record"
abbrev pub fresh : Feeding
fresh = record { standing = idle; held = []; taken = 0; number = 0; place = 0 }

-- "the words of commands accepted so far": those of the bytes taken and not held
abbrev pub accepted : Feeding → ℕ
accepted f = (f.taken - length f.held) / 8

-- a refusal is remembered, and nothing else changes
abbrev pub remembering : Answer → Feeding → Feeding
remembering a f = record { standing = f.standing; held = f.held; taken = f.taken; number = a.number; place = a.place }

-- the held bytes are a command, with its refusal, or 0. It is accepted; or "a refusal is remembered, all else as before the refused command's first byte"
abbrev pub settled : ℕ → Feeding → Feeding
settled zero f = record { standing = standing_after f.standing f.held; held = []; taken = f.taken; number = f.number; place = f.place }
settled (suc g) f = record { standing = f.standing; held = []; taken = f.taken - length f.held; number = suc g; place = accepted f }

-- "a command is judged when its last byte is in"
abbrev pub completed : Feeding → Feeding
completed f = cond (eqb (whole_words f.held) 0) f (settled (refusal_at check_refusals (state_in f.standing) f.held) f)

-- a byte is taken and held
abbrev pub holding : ℕ → Feeding → Feeding
holding b f = record { standing = f.standing; held = f.held ++ b ∷ []; taken = f.taken + 1; number = f.number; place = f.place }

-- after a byte: a remembered refusal stays; within the first 32,768 bytes it is taken; "1 leaves it as after byte 32,768"
unfoldable pub after_byte : Feeding → ℕ → Feeding
after_byte f b = cond (eqb f.number 0) (cond (ltb f.taken 32768) (completed (holding b f)) (remembering (answer 1 4096) f)) f

-- after the bytes of a portion, which may be none
abbrev pub fed_bytes : Feeding → List ℕ → Feeding
fed_bytes f [] = f
fed_bytes f (b ∷ bs) = fed_bytes (after_byte f b) bs

-- after several portions
abbrev pub fed_portions : Feeding → List (List ℕ) → Feeding
fed_portions f [] = f
fed_portions f (p ∷ ps) = fed_portions (fed_bytes f p) ps

-- "at closing, 2, then 3": a remembered refusal; the bytes taken are no multiple of 8; a command is not complete, at its first word
unfoldable pub closing_grounds : Feeding → List (Ground Answer)
closing_grounds f =
    ground (answer f.number f.place) (not (eqb f.number 0))
    ∷ ground (answer 2 (f.taken / 8)) (not (eqb (f.taken % 8) 0))
    ∷ ground (answer 3 (accepted f)) (not (eqb (length f.held) 0))
    ∷ []

-- "closing adds only its refusal and changes nothing if it accepts"
abbrev pub closed : Feeding → Feeding
closed f = remembering (first_of (closing_grounds f) (answer f.number f.place)) f

-- what a portion or the closing answers: the remembered refusal, or 0 and the words of the commands accepted so far
abbrev pub answer_of : Feeding → Answer
answer_of f = answer f.number (cond (eqb f.number 0) (accepted f) f.place)
