-- Document 02, #103 and #105: the record that the caller owns, what it stands for, and refusal 28.
use Rattle.std.specs.Prelude.{ℕ, ◌-◌, ◌%◌, Bool, true, false, cond, not, ◌&&◌, List, [], ◌∷◌, ◌++◌, ◌≡◌, eqb, ltb, length, take, drop, replicate}
use Rattle.rdp_words.specs.Grounds.{Answer}
use Rattle.rdp_command.specs.Decode.{answer}
use Rattle.rdp_words.specs.Kinds.{among}
use Rattle.rdp_words.specs.Lengths.{whole_words}
use Rattle.rdp_check.specs.Order.{Ground, ground, first_of}
use Rattle.rdp_check.specs.Commands.{commands_of}
use Rattle.rdp_hazards.specs.Syncs.{waiting}
use Rattle.rdp_state.specs.declared.Standing.{Standing}
use Rattle.rdp_stream.specs.declared.Stream.{Stream}
use Rattle.rdp_stream.specs.Portions.{Feeding, fed_bytes, closed, answer_of}

-- what a call keeps of a record: whether a Sync Full has come, as a number, and the bytes that mean nothing
pub record Kept : Type 0 where
  pub ended : ℕ
  pub spare : ℕ

-- the record after a call, and the call's answer
pub record Fed : Type 0 where
  pub after : Stream
  pub answer : Answer

-- every byte is zero
abbrev pub all_zero : List ℕ → Bool
all_zero [] = true
all_zero (b ∷ bs) = eqb b 0 && all_zero bs

-- the numbers that these calls remember: none, those of the bytes that come, and those of closing
abbrev pub remembered : List ℕ
remembered = 0 ∷ 1 ∷ 2 ∷ 3 ∷ 4 ∷ 5 ∷ 6 ∷ 7 ∷ 8 ∷ 9 ∷ 19 ∷ []

-- 28, a line for each reason: "over 175 held bytes, a byte past them not zero, held bytes that already make a command, over 32,768 taken, taken less held
-- below 0 or no multiple of 8, or a remembered number these calls don't give"; by #105 "also for a record whose total is above 204,800"
unfoldable pub damage_in : List ℕ → ℕ → ℕ → ℕ → ℕ → List (Ground ℕ)
damage_in held count taken number waited =
    ground 28 (ltb 175 count)
    ∷ ground 28 (not (all_zero (drop count held)))
    ∷ ground 28 (not (eqb (whole_words (take count held)) 0))
    ∷ ground 28 (ltb 32768 taken)
    ∷ ground 28 (ltb taken count)
    ∷ ground 28 (not (eqb ((taken - count) % 8) 0))
    ∷ ground 28 (not (among number remembered))
    ∷ ground 28 (ltb 204800 waited)
    ∷ []

-- one of them holds
abbrev pub damaged_in : List ℕ → ℕ → ℕ → ℕ → ℕ → Bool
damaged_in held count taken number waited = eqb (first_of (damage_in held count taken number waited) 0) 28

abbrev pub is_damaged : Stream → Bool
is_damaged r = damaged_in r.held r.held_count r.taken r.number r.waited

-- where a record's list stands; any number but 0 says that a Sync Full has come
abbrev pub standing_in : Stream → Standing
standing_in r = record { words = r.words; hazards = r.hazards; ended = not (eqb r.ended 0); waited = r.waited }

-- what a record stands for
abbrev pub feeding_of : Stream → Feeding
feeding_of r = record { standing = standing_in r; held = take r.held_count r.held; taken = r.taken; number = r.number; place = r.place }

-- a Sync Full has come, as a number: that of the record before stays
abbrev pub ended_as : ℕ → Bool → ℕ
ended_as before true = cond (eqb before 0) 1 before
ended_as before false = 0

-- what a call reads of a record's last bytes and keeps: the number that says whether a Sync Full has come, and the two bytes that mean nothing
abbrev pub kept_in : Stream → Kept
kept_in r = record { ended = r.ended; spare = r.spare }

-- the record that stands for what is known: "room past the held bytes is zero"
unfoldable pub stream_of : Kept → Feeding → Stream
stream_of kept f =
    record {
      words = f.standing.words;
      held = f.held ++ replicate (176 - length f.held) 0;
      held_count = length f.held;
      taken = f.taken;
      number = f.number;
      place = f.place;
      hazards = f.standing.hazards;
      ended = ended_as kept.ended f.standing.ended;
      spare = kept.spare;
      waited = f.standing.waited;
    }

-- a call's record and answer: "28 at 0, before all others, record untouched"; else those of what is known after the call
unfoldable pub answered : Stream → Feeding → Fed
answered r f = cond (is_damaged r) (record { after = r; answer = answer 28 0 }) (record { after = stream_of (kept_in r) f; answer = answer_of f })

abbrev pub fed_of : Stream → List ℕ → Fed
fed_of r portion = answered r (fed_bytes (feeding_of r) portion)

abbrev pub closed_of : Stream → Fed
closed_of r = answered r (closed (feeding_of r))

-- a fresh, idle record: all is zero
abbrev pub fresh_stream : Stream
fresh_stream =
    record {
      words = replicate 32 0;
      held = replicate 176 0;
      held_count = 0;
      taken = 0;
      number = 0;
      place = 0;
      hazards = 0;
      ended = 0;
      spare = 0;
      waited = 0;
    }

-- #105, "it equals, after each operation, the sum over the commands accepted so far": those of the bytes taken and not held
abbrev pub WaitsFor : Stream → List ℕ → Type 0
WaitsFor r list = r.waited ≡ waiting (commands_of (take (r.taken - r.held_count) list))

-- an operation: a portion, or the closing
pub data Call : Type 0 where
  portion : List ℕ → Call
  closing : Call

-- the record after several operations, and the bytes of their portions
abbrev pub called_stream : Stream → List Call → Stream
called_stream r [] = r
called_stream r (portion bs ∷ cs) = called_stream (fed_of r bs).after cs
called_stream r (closing ∷ cs) = called_stream (closed_of r).after cs

abbrev pub arrived_by : List Call → List ℕ
arrived_by [] = []
arrived_by (portion bs ∷ cs) = bs ++ arrived_by cs
arrived_by (closing ∷ cs) = arrived_by cs

-- the record after several portions
abbrev pub fed_stream : Stream → List (List ℕ) → Stream
fed_stream r [] = r
fed_stream r (p ∷ ps) = fed_stream (fed_of r p).after ps
