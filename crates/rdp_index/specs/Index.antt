-- Document 02, #111: the hazards before one command of a list, from entries that are kept at every 64th command.
use Rattle.std.specs.Prelude.{ℕ, zero, suc, ◌+◌, ◌*◌, ◌/◌, ◌%◌, Bool, false, cond, ◌&&◌, ◌||◌, not, List, [], ◌∷◌, Result, Ok, Err, ◌≡◌, eqb, leb, ltb, length, get_or, take, drop}
use Rattle.rdp_words.specs.Words.{word_at, number_in, overwrite, pasted}
use Rattle.rdp_words.specs.Kinds.{words_of}
use Rattle.rdp_words.specs.Lengths.{first_number, whole_words}
use Rattle.rdp_words.specs.declared.grounds.Refusal.{Refusal}
use Rattle.rdp_words.specs.Grounds.{number_of, Answer}
use Rattle.rdp_command.specs.Decode.{answer}
use Rattle.rdp_hazards.specs.Hazards.{next_of}
use Rattle.rdp_check.specs.Order.{ground, first_of}
use Rattle.rdp_check.specs.Commands.{commands_of, rest_of}
use Rattle.rdp_check.specs.Check.{no_refusals, Judgement, outcome_within}
use Rattle.rdp_check.specs.Refusals.{is_some}
use Rattle.rdp_index.specs.declared.Asked.{Asked as Found}

-- "at every 64th command, from the first, its place and the marks before it .., two an entry": the entries of commands from a place and hazards on, where k
-- commands come before the next entry
unfoldable pub entries_from : ℕ → ℕ → ℕ → List (List ℕ) → List ℕ
entries_from zero at m [] = []
entries_from (suc k) at m [] = []
entries_from zero at m (c ∷ cs) = at ∷ m ∷ entries_from 63 (at + words_of (first_number c)) (next_of m (first_number c)) cs
entries_from (suc k) at m (c ∷ cs) = entries_from k (at + words_of (first_number c)) (next_of m (first_number c)) cs

abbrev pub entries_of : List ℕ → List ℕ
entries_of list = entries_from 0 0 0 (commands_of list)

abbrev pub entry_count : List ℕ → ℕ
entry_count list = length (entries_of list) / 2

-- ---- building

-- "Building refuses by 1 to 3": with the check's places, no refusal of a command counting
abbrev pub wholeness : List ℕ → Judgement
wholeness list = outcome_within 4096 no_refusals list

-- these, or "building answers 0 and its entries"
unfoldable pub index_answer : List ℕ → Answer
index_answer list =
    let o = wholeness list in
    cond (eqb o.number 0) (answer 0 (entry_count list)) (answer o.number o.place)

-- "then 14 with the entries needed": room for fewer entries than there are
unfoldable pub room_answer : ℕ → Answer → Answer
room_answer room a = cond (eqb a.number 0) (cond (ltb room a.place) (answer 14 a.place) a) a

abbrev pub build_answer : List ℕ → List ℕ → Answer
build_answer list old = room_answer (length old / 2) (index_answer list)

-- what is lent for the entries, after building
unfoldable pub build_out : List ℕ → List ℕ → List ℕ
build_out list old = cond (eqb (build_answer list old).number 0) (overwrite (entries_of list) old) old

-- what building answers and what it writes
pub record BuildIs (list old : List ℕ) (r : Answer) (new : List ℕ) : Type 0 where
  pub answers : r ≡ build_answer list old
  pub writes : new ≡ build_out list old

-- ---- asking

-- what a question answers in the papers' numbers: 0 or a refusal, the place, and at 0 the hazards before the command there and the number of commands read
pub record Asked : Type 0 where
  pub number : ℕ
  pub place : ℕ
  pub hazards : ℕ
  pub read : ℕ

-- "Place is the asked one, also at 0"
abbrev pub asked_at : ℕ → ℕ → ℕ → Asked
asked_at place m read = record { number = 0; place = place; hazards = m; read = read }

-- "a refusal: marks and number 0"
abbrev pub refused_at : ℕ → ℕ → Asked
refused_at number place = record { number = number; place = place; hazards = 0; read = 0 }

-- the question at a place, by what it answers
abbrev pub replied : ℕ → Result Found Refusal → Asked
replied place (Ok found) = asked_at place found.hazards found.read
replied place (Err refusal) = refused_at (number_of refusal.ground) refusal.place

-- "the last entry whose place is not beyond the asked one", of the first i entries: its number and 1, or 0 where there is none
unfoldable pub last_before : ℕ → List ℕ → ℕ → ℕ
last_before place es zero = 0
last_before place es (suc i) = cond (leb (get_or es (2 * i) 0) place) (suc i) (last_before place es i)

-- the commands from a place and hazards on, with the bytes of one that is cut: at most `left` more are read, "none that starts past" the asked place "or
-- outside the list". "3, a command it reads is cut; 24, no command read starts at the place"; else 0 with the hazards there and the number read
unfoldable pub read_from : ℕ → ℕ → ℕ → ℕ → ℕ → List (List ℕ) → List ℕ → Asked
read_from zero place read at m cs rest = refused_at 24 place
read_from (suc left) place read at m [] rest = cond (is_some rest && leb at place) (refused_at 3 place) (refused_at 24 place)
read_from (suc left) place read at m (c ∷ cs) rest =
    cond (ltb place at) (refused_at 24 place)
    (cond (eqb at place) (asked_at place m (read + 1))
    (read_from left place (read + 1) (at + words_of (first_number c)) (next_of m (first_number c)) cs rest))

-- from an entry on "at most 64 commands, the asked one included"
abbrev pub read_entry : List ℕ → ℕ → ℕ → ℕ → Asked
read_entry list place at m = read_from 64 place 0 at m (commands_of (drop (8 * at) list)) (rest_of (drop (8 * at) list))

-- "26, no such entry or that entry's marks not among the sixteen"
unfoldable pub ask_entry : List ℕ → List ℕ → ℕ → ℕ → Asked
ask_entry list es place zero = refused_at 26 place
ask_entry list es place (suc i) =
    cond (ltb (get_or es (2 * i + 1) 0) 16) (read_entry list place (get_or es (2 * i) 0) (get_or es (2 * i + 1) 0)) (refused_at 26 place)

-- "a question gives 1, 2, then 26 ..". A buffer of an odd number of numbers holds the entries that are whole
unfoldable pub ask_of : List ℕ → List ℕ → ℕ → Asked
ask_of list es place =
    cond (ltb 32768 (length list)) (refused_at 1 4096)
    (cond (eqb (length list % 8) 0) (ask_entry list es place (last_before place es (length es / 2))) (refused_at 2 (length list / 8)))

-- ---- replacing one command by another of equal length

-- a command starts at the asked place, of those from a place on
unfoldable pub starts_at : ℕ → ℕ → List (List ℕ) → Bool
starts_at place at [] = false
starts_at place at (c ∷ cs) = eqb at place || starts_at place (at + words_of (first_number c)) cs

-- "Replacement refuses first as building does, then as a question"; 24: no command of the list starts at the place, also where entries not built from this
-- list say otherwise; "then 3, new command cut; 25, lengths differ"
unfoldable pub replace_answer : List ℕ → List ℕ → ℕ → List ℕ → Answer
replace_answer list es place new =
    let built = build_answer list es in
    let asked = ask_of list es place in
    first_of
    (ground built (not (eqb built.number 0))
    ∷ ground (answer asked.number asked.place) (not (eqb asked.number 0))
    ∷ ground (answer 24 place) (not (starts_at place 0 (commands_of list)))
    ∷ ground (answer 3 place) (eqb (whole_words new) 0)
    ∷ ground (answer 25 place) (not (eqb (whole_words new) (words_of (number_in (word_at list place)))))
    ∷ [])
    (answer 0 place)

-- the list with the bytes of the new command at a place; bytes beyond that command are not read
abbrev pub with_command : List ℕ → ℕ → List ℕ → List ℕ
with_command list place new = pasted (8 * place) (take (8 * whole_words new) new) list

-- "afterwards all later entries equal those built from nothing, and entries up to that command, its own included, are untouched": as many are kept as there
-- are entries built whose place is not beyond the command's
unfoldable pub renewed : List ℕ → ℕ → List ℕ → List ℕ
renewed built place old =
    let kept = last_before place built (length built / 2) in
    pasted (2 * kept) (drop (2 * kept) built) old

-- what replacing answers and what it writes
pub record ReplaceIs (list es : List ℕ) (place : ℕ) (new : List ℕ) (r : Answer) (list' es' : List ℕ) : Type 0 where
  pub answers : r ≡ replace_answer list es place new
  pub refused : (r.number ≡ 0 → ⊥) → (list' ≡ list) × (es' ≡ es)
  pub writes : r.number ≡ 0 → list' ≡ with_command list place new
  pub renews : r.number ≡ 0 → es' ≡ renewed (entries_of (with_command list place new)) place es
