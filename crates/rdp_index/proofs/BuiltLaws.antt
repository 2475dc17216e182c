-- Entries that are built from a list: a question at the place of a command answers 0 and the hazards before it, those of the full walk, and reads at
-- most 64 commands. Assumes nothing.
use Rattle.std.proofs.Common.{◌≡◌, refl, sym, ap, ◌∙◌, subst, cond, List, [], ◌∷◌, ◌++◌, append_assoc, ℕ, zero, suc, ◌+◌, ◌*◌, ◌-◌, ◌/◌, ◌%◌, ◌≤◌, ◌<◌, le_refl, suc-ne-zero, lt_of_not-le, arith, lt-ltb, le-ltb, le-leb, eq-eqb, ne_eqb, eqb-true, eqb, leb, ltb, length, get_or, take, drop, length-append, length-drop, take-append-drop, drop-drop, get_or-drop, length-take-le}
use mathlib.Core.List.{nil≢cons, head-eq_of_cons-eq, tail-eq_of_cons-eq}
use Rattle.std.proofs.Math.Decide.{dec_le}
use borrow.Author.Tests.{lt-leb, eqb-false}
use Rattle.rdp_words.specs.Kinds.{words_of}
use Rattle.rdp_words.specs.Lengths.{first_number, whole_words}
use Rattle.rdp_words.proofs.Tests.{by-test}
use Rattle.rdp_words.proofs.PlaceLaws.{is_whole}
use Rattle.rdp_hazards.specs.Hazards.{next_of}
use Rattle.rdp_check.specs.Commands.{commands_of, rest_of, words_in}
use Rattle.rdp_check.specs.Check.{State, start, after_command}
use Rattle.rdp_check.specs.Refusals.{state_after}
use Rattle.rdp_hazards.proofs.HazardLaws.{next_small}
use Rattle.rdp_check.proofs.ListLaws.{head, tail, commands-head, commands-cut}
use Rattle.rdp_check.proofs.JoinLaws.{Alone, AllAlone, command-some, parsed, words_append}
use Rattle.rdp_index.specs.Index.{entries_from, entries_of, entry_count, refused_at, asked_at, last_before, read_from, read_entry, ask_entry, ask_of}
use Rattle.rdp_index.specs.Index.{Asked}
use Rattle.rdp_index.proofs.ReadLaws.{ask-whole}

-- ---- the full walk

-- the hazards after commands, every refusal of a command passed over
abbrev pub hazards_through : ℕ → List (List ℕ) → ℕ
hazards_through m [] = m
hazards_through m (c ∷ cs) = hazards_through (next_of m (first_number c)) cs

pub through-small : (m : ℕ) (cs : List (List ℕ)) → m < 16 → hazards_through m cs < 16
through-small m [] h = h
through-small m (c ∷ cs) h = through-small (next_of m (first_number c)) cs (next_small m (first_number c))

-- these are the hazards of the state that the check's definition carries
pub through-state : (s : State) (cs : List (List ℕ)) → (state_after s cs).hazards ≡ hazards_through s.hazards cs
unfolding after_command
through-state s [] = refl
through-state s (c ∷ cs) = through-state (after_command s c) cs

pub through-append : (m : ℕ) (us bs : List (List ℕ)) → hazards_through m (us ++ bs) ≡ hazards_through (hazards_through m us) bs
through-append m [] bs = refl
through-append m (a ∷ us) bs = through-append (next_of m (first_number a)) us bs

-- ---- the entries

-- commands before the next entry are passed
pub entries-past :
    (k at m : ℕ) (us cs : List (List ℕ)) →
    entries_from (length us + k) at m (us ++ cs) ≡ entries_from k (at + words_in us) (hazards_through m us) cs
unfolding entries_from
entries-past k at m [] cs =
    let e : at ≡ at + 0 = omega arith in
    let f : 0 + k ≡ k = omega arith in
    (λ i. entries_from (f i) (e i) m cs)
entries-past k at m (a ∷ us) cs =
    let e : suc (length us) + k ≡ suc (length us + k) = omega arith in
    let w : at + words_of (first_number a) + words_in us ≡ at + (words_of (first_number a) + words_in us) = omega arith in
    ap (λ (j : ℕ). entries_from j at m (a ∷ (us ++ cs))) e ∙
    entries-past k (at + words_of (first_number a)) (next_of m (first_number a)) us cs ∙
    ap (λ (p : ℕ). entries_from k p (hazards_through (next_of m (first_number a)) us) cs) w

-- an entry, then those after 64 commands
entries-here : (at m : ℕ) (c : List ℕ) (cs : List (List ℕ)) → entries_from 0 at m (c ∷ cs) ≡ at ∷ m ∷ entries_from 64 at m (c ∷ cs)
unfolding entries_from
entries-here at m c cs = refl

entries-some :
    (c : List ℕ) (cs : List (List ℕ)) (at m : ℕ) (us : List (List ℕ)) → entries_from 0 at m (us ++ c ∷ cs) ≡ at ∷ m ∷ entries_from 64 at m (us ++ c ∷ cs)
entries-some c cs at m [] = entries-here at m c cs
entries-some c cs at m (u ∷ us) = entries-here at m u (us ++ c ∷ cs)

pub double : (i : ℕ) → 2 * suc i ≡ suc (suc (2 * i))
double i = omega arith

-- the places to come are at least so far on
pub entries-beyond : (k at m : ℕ) (cs : List (List ℕ)) (i : ℕ) → 2 * i < length (entries_from k at m cs) → at + k ≤ get_or (entries_from k at m cs) (2 * i) 0
unfolding entries_from
entries-beyond zero at m [] i h = absurd (omega arith)
entries-beyond (suc k) at m [] i h = absurd (omega arith)
entries-beyond zero at m (c ∷ cs) zero h = omega arith
entries-beyond zero at m (c ∷ cs) (suc i) h =
    let es : List ℕ = entries_from 63 (at + words_of (first_number c)) (next_of m (first_number c)) cs in
    let inside : 2 * i < length es = omega arith in
    let e : get_or (at ∷ m ∷ es) (2 * suc i) 0 ≡ get_or es (2 * i) 0 = ap (λ (j : ℕ). get_or (at ∷ m ∷ es) j 0) (double i) in
    omega (arith, e, entries-beyond 63 (at + words_of (first_number c)) (next_of m (first_number c)) cs i inside)
entries-beyond (suc k) at m (c ∷ cs) i h =
    omega (arith, command-some c, entries-beyond k (at + words_of (first_number c)) (next_of m (first_number c)) cs i h)

-- ---- the entry that a question starts at

-- where all places lie beyond the asked one there is none
last-beyond : (place : ℕ) (es : List ℕ) (n : ℕ) → ((i : ℕ) → i < n → place < get_or es (2 * i) 0) → last_before place es n ≡ 0
unfolding last_before
last-beyond place es zero h = refl
last-beyond place es (suc n) h =
    let far : place < get_or es (2 * n) 0 = h n (omega arith) in
    rw (lt-leb _ _ far) (last-beyond place es n (λ i l. h i (omega arith)))

-- one entry in front
last-front :
    (place p m : ℕ) (es : List ℕ) (n : ℕ) → p ≤ place → last_before place (p ∷ m ∷ es) (suc n) ≡ suc (last_before place es n)
unfolding last_before
last-front place p m es zero h = rw (le-leb _ _ h)
last-front place p m es (suc n) h =
    let e : get_or (p ∷ m ∷ es) (2 * suc n) 0 ≡ get_or es (2 * n) 0 = ap (λ (j : ℕ). get_or (p ∷ m ∷ es) j 0) (double n) in
    by-test (leb (get_or es (2 * n) 0) place) (λ t. rw (e, t)) (λ f. rw (e, f) (last-front place p m es n h))

-- ---- the commands that it reads

read-to :
    (left read at m : ℕ) (us : List (List ℕ)) (c : List ℕ) (cs : List (List ℕ)) (rest : List ℕ) → length us < left →
    read_from left (at + words_in us) read at m (us ++ c ∷ cs) rest ≡ asked_at (at + words_in us) (hazards_through m us) (read + length us + 1)
unfolding read_from
read-to zero read at m us c cs rest h = absurd (omega arith)
read-to (suc left) read at m [] c cs rest h =
    let e : at + 0 ≡ at = omega arith in
    let r : read + 0 + 1 ≡ read + 1 = omega arith in
    rw (e, r, le-ltb at at (le_refl at), eq-eqb at at refl)
read-to (suc left) read at m (a ∷ us) c cs rest h =
    let w : at + words_of (first_number a) + words_in us ≡ at + words_in (a ∷ us) = omega arith in
    let r : read + 1 + length us + 1 ≡ read + length (a ∷ us) + 1 = omega arith in
    let some : 1 ≤ words_of (first_number a) = command-some a in
    let before : at ≤ at + words_in (a ∷ us) = omega arith in
    let apart : at ≡ at + words_in (a ∷ us) → ⊥ = λ e. omega arith in
    let next = read-to left (read + 1) (at + words_of (first_number a)) (next_of m (first_number a)) us c cs rest (omega arith) in
    rw (le-ltb _ _ before, ne_eqb _ _ apart)
    (ap (λ (p : ℕ). read_from left p (read + 1) (at + words_of (first_number a)) (next_of m (first_number a)) (us ++ c ∷ cs) rest) (sym w) ∙
    next ∙
    (λ i. asked_at (w i) (hazards_through (next_of m (first_number a)) us) (r i)))

-- ---- the commands after some

-- the commands after the words of the first ones
pub commands-after :
    (us : List (List ℕ)) (bs : List ℕ) (cs : List (List ℕ)) → commands_of bs ≡ us ++ cs → commands_of (drop (8 * words_in us) bs) ≡ cs
commands-after [] bs cs e = e
commands-after (u ∷ us) bs cs e =
    by-test (eqb (whole_words bs) 0) (λ t. absurd (nil≢cons (sym (commands-cut bs (eqb-true _ _ t)) ∙ e)))
    (λ f.
    let there = eqb-false _ _ f in
    let both : head bs ∷ commands_of (tail bs) ≡ u ∷ (us ++ cs) = sym (commands-head bs there) ∙ e in
    let long : length (head bs) ≡ 8 * whole_words bs = length-take-le (8 * whole_words bs) bs (is_whole bs there).inside in
    let alone : Alone u = (subst AllAlone e (parsed bs).alone).0 in
    let same : 8 * whole_words bs ≡ 8 * words_of (first_number u) = sym long ∙ ap length (head-eq_of_cons-eq both) ∙ alone in
    let sum : 8 * whole_words bs + 8 * words_in us ≡ 8 * words_in (u ∷ us) = omega arith in
    sym (ap commands_of (drop-drop (8 * words_in us) (8 * whole_words bs) bs ∙ ap (λ (k : ℕ). drop k bs) sum)) ∙
    commands-after us (tail bs) cs (tail-eq_of_cons-eq both))

-- ---- the question

-- what a question answers by the entries alone
abbrev answered : List ℕ → List ℕ → ℕ → Asked
answered list es place = ask_entry list es place (last_before place es (length es / 2))

-- an entry in front, of a place that is not beyond, where none after it counts
ask-first :
    (list : List ℕ) (place p m : ℕ) (es : List ℕ) → p ≤ place → m < 16 → last_before place es (length es / 2) ≡ 0 →
    answered list (p ∷ m ∷ es) place ≡ read_entry list place p m
unfolding ask_entry
ask-first list place p m es h low none =
    let n : length (p ∷ m ∷ es) / 2 ≡ suc (length es / 2) = omega arith in
    ap (λ (k : ℕ). ask_entry list (p ∷ m ∷ es) place (last_before place (p ∷ m ∷ es) k)) n ∙
    ap (ask_entry list (p ∷ m ∷ es) place) (last-front place p m es (length es / 2) h ∙ ap suc none) ∙
    rw (lt-ltb _ _ low)

-- or where one after it counts
ask-later :
    (list : List ℕ) (place p m : ℕ) (es : List ℕ) (k : ℕ) → p ≤ place → last_before place es (length es / 2) ≡ suc k →
    answered list (p ∷ m ∷ es) place ≡ answered list es place
unfolding ask_entry
ask-later list place p m es k h some =
    let n : length (p ∷ m ∷ es) / 2 ≡ suc (length es / 2) = omega arith in
    let e : get_or (p ∷ m ∷ es) (2 * suc k) 0 ≡ get_or es (2 * k) 0 = ap (λ (j : ℕ). get_or (p ∷ m ∷ es) j 0) (double k) in
    let o : 2 * suc k + 1 ≡ suc (suc (2 * k + 1)) = omega arith in
    let f : get_or (p ∷ m ∷ es) (2 * suc k + 1) 0 ≡ get_or es (2 * k + 1) 0 = ap (λ (j : ℕ). get_or (p ∷ m ∷ es) j 0) o in
    ap (λ (j : ℕ). ask_entry list (p ∷ m ∷ es) place (last_before place (p ∷ m ∷ es) j)) n ∙
    ap (ask_entry list (p ∷ m ∷ es) place) (last-front place p m es (length es / 2) h ∙ ap suc some) ∙
    (λ i. cond (ltb (f i) 16) (read_entry list place (e i) (f i)) (refused_at 26 place)) ∙
    sym (ap (ask_entry list es place) some)

-- from a place of the list on: some entry counts, and the answer
record Answered (list : List ℕ) (place m : ℕ) (us : List (List ℕ)) (es : List ℕ) : Type 0 where
  number : ℕ
  counts : last_before place es (length es / 2) ≡ suc number
  answers : answered list es place ≡ asked_at place (hazards_through m us) (length us % 64 + 1)

module _ (list : List ℕ) (c : List ℕ) (cs : List (List ℕ)) where
  -- fewer than 64 commands after an entry
  answered-near :
      (at m : ℕ) (us : List (List ℕ)) → length us < 64 → m < 16 → commands_of (drop (8 * at) list) ≡ us ++ c ∷ cs →
      Answered list (at + words_in us) m us (at ∷ m ∷ entries_from 64 at m (us ++ c ∷ cs))
  answered-near at m us few low e =
      let place : ℕ = at + words_in us in
      let k : ℕ = 64 - length us in
      let es : List ℕ = entries_from 64 at m (us ++ c ∷ cs) in
      let split : length us + k ≡ 64 = omega arith in
      let past : es ≡ entries_from k place (hazards_through m us) (c ∷ cs) =
      ap (λ (j : ℕ). entries_from j at m (us ++ c ∷ cs)) (sym split) ∙ entries-past k at m us (c ∷ cs) in
      let none : last_before place es (length es / 2) ≡ 0 =
      last-beyond place es (length es / 2)
      (λ i h.
      let far : List ℕ = entries_from k place (hazards_through m us) (c ∷ cs) in
      let inside : 2 * i < length far = omega (arith, ap length past) in
      let beyond : place < get_or far (2 * i) 0 = omega (arith, entries-beyond k place (hazards_through m us) (c ∷ cs) i inside) in
      subst (λ (l : List ℕ). place < get_or l (2 * i) 0) (sym past) beyond) in
      let le : at ≤ place = omega arith in
      let n : length (at ∷ m ∷ es) / 2 ≡ suc (length es / 2) = omega arith in
      let count : length us + 1 ≡ length us % 64 + 1 = omega arith in
      let zero-read : 0 + length us + 1 ≡ length us + 1 = omega arith in
      record {
        number = 0;
        counts = ap (last_before place (at ∷ m ∷ es)) n ∙ last-front place at m es (length es / 2) le ∙ ap suc none;
        answers =
            ask-first list place at m es le low none ∙
            ap (λ (l : List (List ℕ)). read_from 64 place 0 at m l (rest_of (drop (8 * at) list))) e ∙
            read-to 64 0 at m us c cs (rest_of (drop (8 * at) list)) few ∙
            ap (asked_at place (hazards_through m us)) (zero-read ∙ count);
      }

  -- 64 commands, then from the next entry on
  answered-far :
      (at m : ℕ) (vs us : List (List ℕ)) → length vs ≡ 64 →
      Answered list (at + words_in vs + words_in us) (hazards_through m vs) us (entries_from 0 (at + words_in vs) (hazards_through m vs) (us ++ c ∷ cs)) →
      Answered list (at + words_in (vs ++ us)) m (vs ++ us) (at ∷ m ∷ entries_from 64 at m ((vs ++ us) ++ c ∷ cs))
  answered-far at m vs us full r =
      let es : List ℕ = entries_from 0 (at + words_in vs) (hazards_through m vs) (us ++ c ∷ cs) in
      let place : ℕ = at + words_in vs + words_in us in
      let long : length vs + 0 ≡ 64 = omega arith in
      let same : entries_from 64 at m ((vs ++ us) ++ c ∷ cs) ≡ es =
      ap (λ (j : ℕ). entries_from j at m ((vs ++ us) ++ c ∷ cs)) (sym long) ∙
      ap (entries_from (length vs + 0) at m) (append_assoc vs us (c ∷ cs)) ∙
      entries-past 0 at m vs (us ++ c ∷ cs) in
      let where-is : at + words_in (vs ++ us) ≡ place = omega (arith, words_append vs us) in
      let le : at ≤ place = omega arith in
      let n : length (at ∷ m ∷ es) / 2 ≡ suc (length es / 2) = omega arith in
      let count : length us % 64 + 1 ≡ length (vs ++ us) % 64 + 1 = omega (arith, length-append vs us) in
      subst (λ (l : List ℕ). Answered list (at + words_in (vs ++ us)) m (vs ++ us) (at ∷ m ∷ l)) (sym same)
      (subst (λ (p : ℕ). Answered list p m (vs ++ us) (at ∷ m ∷ es)) (sym where-is)
      (record {
        number = suc r.number;
        counts = ap (last_before place (at ∷ m ∷ es)) n ∙ last-front place at m es (length es / 2) le ∙ ap suc r.counts;
        answers =
            ask-later list place at m es r.number le r.counts ∙
            r.answers ∙
            (λ i. asked_at place (sym (through-append m vs us) i) (count i));
      }))

  near :
      (at m : ℕ) (us : List (List ℕ)) → length us < 64 → m < 16 → commands_of (drop (8 * at) list) ≡ us ++ c ∷ cs →
      Answered list (at + words_in us) m us (entries_from 0 at m (us ++ c ∷ cs))
  near at m us few low e =
      subst (λ (l : List ℕ). Answered list (at + words_in us) m us l) (sym (entries-some c cs at m us)) (answered-near at m us few low e)

  answered-all :
      (fuel at m : ℕ) (us : List (List ℕ)) → length us ≤ fuel → m < 16 → commands_of (drop (8 * at) list) ≡ us ++ c ∷ cs →
      Answered list (at + words_in us) m us (entries_from 0 at m (us ++ c ∷ cs))
  answered-all zero at m us h low e = near at m us (omega arith) low e
  answered-all (suc fuel) at m us h low e =
      elim (dec_le 64 (length us)) [
        | no g ↦ near at m us (lt_of_not-le g) low e
        | yes g ↦
            let vs : List (List ℕ) = take 64 us in
            let ws : List (List ℕ) = drop 64 us in
            let both : vs ++ ws ≡ us = take-append-drop 64 us in
            let full : length vs ≡ 64 = length-take-le 64 us g in
            let fewer : length ws ≤ fuel = omega (arith, length-drop 64 us) in
            let onward : 8 * at + 8 * words_in vs ≡ 8 * (at + words_in vs) = omega arith in
            let there : commands_of (drop (8 * (at + words_in vs)) list) ≡ ws ++ c ∷ cs =
            sym (ap commands_of (drop-drop (8 * words_in vs) (8 * at) list ∙ ap (λ (k : ℕ). drop k list) onward)) ∙
            commands-after vs (drop (8 * at) list) (ws ++ c ∷ cs)
            (e ∙ ap (λ (l : List (List ℕ)). l ++ c ∷ cs) (sym both) ∙ append_assoc vs ws (c ∷ cs)) in
            let rest = answered-all fuel (at + words_in vs) (hazards_through m vs) ws fewer (through-small m vs low) there in
            subst (λ (l : List (List ℕ)). Answered list (at + words_in l) m l (entries_from 0 at m (l ++ c ∷ cs))) both
            (subst (λ (l : List ℕ). Answered list (at + words_in (vs ++ ws)) m (vs ++ ws) l) (sym (entries-some c cs at m (vs ++ ws)))
            (answered-far at m vs ws full rest))
      ]

-- #111: for entries built from this list the hazards at the place of a command are those of the full walk, missing syncs passed over; the commands from
-- the last 64th one on are read, the asked one included
pub ask-built :
    (list : List ℕ) (before : List (List ℕ)) (c : List ℕ) (after : List (List ℕ)) → length list ≤ 32768 → length list % 8 ≡ 0 →
    commands_of list ≡ before ++ c ∷ after →
    ask_of list (entries_of list) (words_in before) ≡ asked_at (words_in before) (hazards_through 0 before) (length before % 64 + 1)
ask-built list before c after short words e =
    let z : 0 + words_in before ≡ words_in before = omega arith in
    let r = answered-all list c after (length before) 0 0 before (le_refl _) (omega arith) e in
    ask-whole list (entries_of list) (words_in before) short words ∙
    ap (λ (cs : List (List ℕ)). answered list (entries_from 0 0 0 cs) (words_in before)) e ∙
    subst (λ (p : ℕ). answered list (entries_from 0 0 0 (before ++ c ∷ after)) p ≡ asked_at p (hazards_through 0 before) (length before % 64 + 1)) z r.answers

-- ---- what the entries are

empty : (us : List (List ℕ)) → length us ≡ 0 → us ≡ []
empty [] e = refl
empty (u ∷ us) e = absurd (suc-ne-zero (length us) e)

-- the entries from number i on are those from command number 64 i on
entries-drop :
    (i at m : ℕ) (us : List (List ℕ)) (c : List ℕ) (cs : List (List ℕ)) → length us ≡ 64 * i →
    drop (2 * i) (entries_from 0 at m (us ++ c ∷ cs)) ≡ entries_from 0 (at + words_in us) (hazards_through m us) (c ∷ cs)
entries-drop zero at m us c cs e =
    let none : us ≡ [] = empty us e in
    let z : at ≡ at + 0 = omega arith in
    subst (λ (l : List (List ℕ)). entries_from 0 at m (l ++ c ∷ cs) ≡ entries_from 0 (at + words_in l) (hazards_through m l) (c ∷ cs)) (sym none)
    (ap (λ (p : ℕ). entries_from 0 p m (c ∷ cs)) z)
entries-drop (suc i) at m us c cs e =
    let g : 64 ≤ length us = omega arith in
    let vs : List (List ℕ) = take 64 us in
    let ws : List (List ℕ) = drop 64 us in
    let both : vs ++ ws ≡ us = take-append-drop 64 us in
    let full : length vs + 0 ≡ 64 = omega (arith, length-take-le 64 us g) in
    let fewer : length ws ≡ 64 * i = omega (arith, length-drop 64 us) in
    let es : List ℕ = entries_from 0 (at + words_in vs) (hazards_through m vs) (ws ++ c ∷ cs) in
    let here : entries_from 0 at m (us ++ c ∷ cs) ≡ at ∷ m ∷ es =
    entries-some c cs at m us ∙
    ap (λ (l : List ℕ). at ∷ m ∷ l)
    (ap (entries_from 64 at m) (ap (λ (l : List (List ℕ)). l ++ c ∷ cs) (sym both) ∙ append_assoc vs ws (c ∷ cs)) ∙
    ap (λ (k : ℕ). entries_from k at m (vs ++ (ws ++ c ∷ cs))) (sym full) ∙
    entries-past 0 at m vs (ws ++ c ∷ cs)) in
    let words : at + words_in vs + words_in ws ≡ at + words_in us = omega (arith, words_append vs ws, ap words_in both) in
    ap (drop (2 * suc i)) here ∙
    ap (λ (k : ℕ). drop k (at ∷ m ∷ es)) (double i) ∙
    entries-drop i (at + words_in vs) (hazards_through m vs) ws c cs fewer ∙
    (λ j. entries_from 0 (words j) ((sym (through-append m vs ws) ∙ ap (hazards_through m) both) j) (c ∷ cs))

-- #111: "at every 64th command, from the first, its place and the marks before it"
pub record EntryAt (list : List ℕ) (i : ℕ) (before : List (List ℕ)) : Type 0 where
  pub place : get_or (entries_of list) (2 * i) 0 ≡ words_in before
  pub hazards : get_or (entries_of list) (2 * i + 1) 0 ≡ (state_after start before).hazards

pub entry-built :
    (list : List ℕ) (i : ℕ) (before : List (List ℕ)) (c : List ℕ) (after : List (List ℕ)) → commands_of list ≡ before ++ c ∷ after →
    length before ≡ 64 * i → EntryAt list i before
entry-built list i before c after e long =
    let es : List ℕ = entries_of list in
    let rest : List ℕ = entries_from 64 (0 + words_in before) (hazards_through 0 before) (c ∷ after) in
    let there : drop (2 * i) es ≡ (0 + words_in before) ∷ hazards_through 0 before ∷ rest =
    ap (λ (l : List (List ℕ)). drop (2 * i) (entries_from 0 0 0 l)) e ∙
    entries-drop i 0 0 before c after long ∙
    entries-here (0 + words_in before) (hazards_through 0 before) c after in
    let z : 2 * i + 0 ≡ 2 * i = omega arith in
    let w : 0 + words_in before ≡ words_in before = omega arith in
    record {
      place = ap (λ (k : ℕ). get_or es k 0) (sym z) ∙ sym (get_or-drop (2 * i) es 0 0) ∙ ap (λ (l : List ℕ). get_or l 0 0) there ∙ w;
      hazards = sym (get_or-drop (2 * i) es 1 0) ∙ ap (λ (l : List ℕ). get_or l 1 0) there ∙ sym (through-state start before);
    }

-- as many as there are 64th commands
pub entries-count : (k at m : ℕ) (cs : List (List ℕ)) → k ≤ 63 → length (entries_from k at m cs) ≡ 2 * ((length cs + 63 - k) / 64)
unfolding entries_from
entries-count zero at m [] h = refl
entries-count (suc k) at m [] h = omega arith
entries-count zero at m (c ∷ cs) h =
    omega (arith, entries-count 63 (at + words_of (first_number c)) (next_of m (first_number c)) cs (omega arith))
entries-count (suc k) at m (c ∷ cs) h =
    let r = entries-count k (at + words_of (first_number c)) (next_of m (first_number c)) cs (omega arith) in
    let e : length cs + 63 - k ≡ suc (length cs) + 63 - suc k = omega arith in
    r ∙ ap (λ (n : ℕ). 2 * (n / 64)) e

pub count-built : (list : List ℕ) → entry_count list ≡ (length (commands_of list) + 63) / 64
count-built list = omega (arith, entries-count 0 0 0 (commands_of list) (omega arith))
