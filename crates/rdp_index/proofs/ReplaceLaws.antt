-- Replacing a command: the refusals, the new list and the later entries. Assumes nothing.
use Rattle.std.proofs.Common.{◌≡◌, refl, sym, ap, ◌∙◌, subst, Bool, true, false, not, List, [], ◌∷◌, ◌++◌, ℕ, ◌+◌, ◌*◌, ◌-◌, ◌/◌, ◌%◌, ◌≤◌, le_refl, suc-ne-zero, arith, le-ltb, eq-eqb, ne_eqb, ltb-false, eqb-true, eqb, ltb, length, take, drop, length-append, length-drop, take_at, drop_at, length-take-le}
use mathlib.Core.List.{nil≢cons, head-eq_of_cons-eq}
use borrow.Author.Tests.{eqb-false, not-false}
use borrow.Rule.Slice.PartMut.{put_mid}
use Rattle.std.proofs.lemmas.Slice.{between_is}
use Rattle.rdp_words.specs.Words.{word_at, number_in, overwrite, pasted}
use Rattle.rdp_words.specs.Kinds.{words_of}
use Rattle.rdp_words.specs.Lengths.{first_number, whole_words}
use Rattle.rdp_words.specs.Grounds.{Answer}
use Rattle.rdp_command.specs.Decode.{answer}
use Rattle.rdp_words.proofs.Tests.{by-test}
use Rattle.rdp_words.proofs.PlaceLaws.{is_whole, word-drop}
use Rattle.rdp_check.specs.Commands.{commands_of, rest_of, words_in, joined}
use Rattle.rdp_check.proofs.ListLaws.{head, commands-head, commands-cut}
use Rattle.rdp_check.proofs.JoinLaws.{Alone, AllAlone, head-long, head-alone, parsed, joined-whole, joined-append, commands-joined, rest-joined, length-joined, alone-append, words_append}
use Rattle.rdp_index.specs.Index.{asked_at, entries_of, entry_count, index_answer, room_answer, build_answer, last_before, ask_of, starts_at, replace_answer, with_command, renewed, ReplaceIs}
use Rattle.rdp_index.specs.Steps.{IndexIs, Fitting, ReplacementIs}
use Rattle.rdp_index.specs.Index.{Asked}
use Rattle.rdp_index.proofs.NoteLaws.{index-whole, Whole, index-facts, room-refused}
use Rattle.rdp_index.proofs.BuiltLaws.{hazards_through, commands-after, entries-count, ask-built}
use Rattle.rdp_index.proofs.StartLaws.{Split, starts-split, starts-here}

-- ---- the later entries

-- a part of the entries that holds what the same part of others held
pub part-copied :
    (out src part : List ℕ) (from to : ℕ) → from ≤ to → to ≤ length src → part ≡ take (to - from) (drop from src) →
    put_mid from (to - from) out part ≡ pasted from (drop from (take to src)) out
unfolding pasted overwrite
part-copied out src part from to h there is =
    let long : length part ≡ to - from = ap length is ∙ length-take-le (to - from) (drop from src) (omega (arith, length-drop from src)) in
    ap (λ (n : ℕ). take from out ++ (part ++ drop n (drop from out))) (sym long) ∙
    ap (λ (l : List ℕ). take from out ++ (l ++ drop (length l) (drop from out))) (is ∙ between_is src from to)

pub renew-by :
    (list made : List ℕ) (r : Answer) → IndexIs list r made → (index_answer list).number ≡ 0 → (place kept : ℕ) →
    let front = take (2 * r.place) made in
    kept ≡ last_before place front (length front / 2) →
    (old new : List ℕ) → new ≡ pasted (2 * kept) (drop (2 * kept) front) old → new ≡ renewed (entries_of list) place old
unfolding renewed
renew-by list made r i z place kept is old new e =
    let built = i.entries (ap (λ (a : Answer). a.number) i.answers ∙ z) in
    let same = is ∙ ap (λ (l : List ℕ). last_before place l (length l / 2)) built in
    e ∙ (λ j. pasted (2 * same j) (drop (2 * same j) (built j)) old)

-- ---- the refusals in their order

-- as many entries as there are, or more, fit
pub room_fits : (list : List ℕ) (room : ℕ) → entry_count list ≤ room → room_answer room (answer 0 (entry_count list)) ≡ answer 0 (entry_count list)
unfolding room_answer
room_fits list room h = rw (le-ltb room (entry_count list) h)

room_small : (room : ℕ) (a : Answer) → eqb a.number 0 ≡ true → ltb room a.place ≡ true → room_answer room a ≡ answer 14 a.place
unfolding room_answer
room_small room a t l = rw (t, l)

room-zero : (room : ℕ) (a : Answer) → (room_answer room a).number ≡ 0 → (a.number ≡ 0) × (a.place ≤ room)
room-zero room a z =
    by-test (eqb a.number 0)
    (λ t.
    by-test (ltb room a.place)
    (λ l. absurd (suc-ne-zero 13 (sym (ap (λ (x : Answer). x.number) (room_small room a t l)) ∙ z)))
    (λ g. (eqb-true _ _ t, ltb-false _ _ g)))
    (λ f. absurd (eqb-false _ _ f (sym (ap (λ (x : Answer). x.number) (room-refused room a (eqb-false _ _ f))) ∙ z)))

module _ (list es : List ℕ) (place : ℕ) (new : List ℕ) (b : Answer) (is_b : b ≡ build_answer list es) where
  pub refuse-built : (b.number ≡ 0 → ⊥) → ReplacementIs list es place new b
  unfolding replace_answer
  refuse-built h = record { answers = rw (← is_b, ne_eqb _ _ h); fits = λ z. absurd (h z) }

  module _ (zb : b.number ≡ 0) (a : Asked) (is-a : a ≡ ask_of list es place) where
    pub refuse-asked : (a.number ≡ 0 → ⊥) → ReplacementIs list es place new (answer a.number a.place)
    unfolding replace_answer
    refuse-asked h = record { answers = rw (← is_b, eq-eqb _ _ zb, ← is-a, ne_eqb _ _ h); fits = λ z. absurd (h z) }

    module _ (za : a.number ≡ 0) (s : Bool) (is-s : s ≡ starts_at place 0 (commands_of list)) where
      pub refuse-start : not s ≡ true → ReplacementIs list es place new (answer 24 place)
      unfolding replace_answer
      refuse-start h =
          record { answers = rw (← is_b, eq-eqb _ _ zb, ← is-a, eq-eqb _ _ za, ← is-s, h); fits = λ z. absurd (suc-ne-zero 23 z) }

      module _ (ts : not s ≡ false) (w : ℕ) (is-w : w ≡ whole_words new) where
        pub refuse-cut : w ≡ 0 → ReplacementIs list es place new (answer 3 place)
        unfolding replace_answer
        refuse-cut h =
            record {
              answers = rw (← is_b, eq-eqb _ _ zb, ← is-a, eq-eqb _ _ za, ← is-s, ts, ← is-w, eq-eqb _ _ h);
              fits = λ z. absurd (suc-ne-zero 2 z);
            }

        module _ (some : w ≡ 0 → ⊥) (n : ℕ) (is-n : n ≡ words_of (number_in (word_at list place))) where
          pub refuse-length : (w ≡ n → ⊥) → ReplacementIs list es place new (answer 25 place)
          unfolding replace_answer
          refuse-length h =
              record {
                answers = rw (← is_b, eq-eqb _ _ zb, ← is-a, eq-eqb _ _ za, ← is-s, ts, ← is-w, ne_eqb _ _ some, ← is-n, ne_eqb _ _ h);
                fits = λ z. absurd (suc-ne-zero 24 z);
              }

          pub fitting : w ≡ n → ReplacementIs list es place new (answer 0 place)
          unfolding replace_answer
          fitting h =
              let r = room-zero (length es / 2) (index_answer list) (sym (ap (λ (x : Answer). x.number) is_b) ∙ zb) in
              record {
                answers = rw (← is_b, eq-eqb _ _ zb, ← is-a, eq-eqb _ _ za, ← is-s, ts, ← is-w, ne_eqb _ _ some, ← is-n, eq-eqb _ _ h);
                fits =
                    λ z. record {
                      whole = r.0;
                      room = r.1;
                      starts = sym is-s ∙ not-false s ts;
                      some = λ e. some (is-w ∙ e);
                      equal = sym is-w ∙ h ∙ is-n;
                    };
              }

-- ---- the new list

alone-before : (us cs : List (List ℕ)) → AllAlone (us ++ cs) → AllAlone us
alone-before [] cs h = tt
alone-before (u ∷ us) cs h = (h.0, alone-before us cs h.1)

alone-after : (us cs : List (List ℕ)) → AllAlone (us ++ cs) → AllAlone cs
alone-after [] cs h = h
alone-after (u ∷ us) cs h = alone-after us cs h.1

-- the first command of bytes, where it is whole
module _ (bs : List ℕ) (there : whole_words bs ≡ 0 → ⊥) where
  head-words : words_of (first_number (head bs)) ≡ whole_words bs
  head-words = omega (arith, head-long bs there, head-alone bs there)

-- the words of the command at a place
words-at :
    (list : List ℕ) (us : List (List ℕ)) (c : List ℕ) (cs : List (List ℕ)) → commands_of list ≡ us ++ c ∷ cs →
    words_of (first_number c) ≡ words_of (number_in (word_at list (words_in us)))
words-at list us c cs e =
    let from : List ℕ = drop (8 * words_in us) list in
    let here : commands_of from ≡ c ∷ cs = commands-after us list (c ∷ cs) e in
    let whole : whole_words from ≡ 0 → ⊥ = λ z. nil≢cons (sym (commands-cut from z) ∙ here) in
    let same : head from ≡ c = head-eq_of_cons-eq (sym (commands-head from whole) ∙ here) in
    ap (λ (x : List ℕ). words_of (first_number x)) (sym same) ∙
    head-words from whole ∙
    (is_whole from whole).words ∙
    ap (λ (w : ℕ). words_of (number_in w)) (word-drop list (words_in us))

-- the new list has the commands of the old one but for the one at the place, which is the new one
pub record Replaced (list : List ℕ) (place : ℕ) (new list' : List ℕ) : Type 0 where
  pub before : List (List ℕ)
  pub command : List ℕ
  pub after : List (List ℕ)
  pub commands : commands_of list ≡ before ++ command ∷ after
  pub here : words_in before ≡ place
  pub commands' : commands_of list' ≡ before ++ head new ∷ after
  pub none' : rest_of list' ≡ []
  pub same_length : length list' ≡ length list
  pub same-words : words_of (first_number (head new)) ≡ words_of (first_number command)
  pub inside : 8 * place + 8 * whole_words new ≤ length list

module _ (list es : List ℕ) (place : ℕ) (new : List ℕ) (f : Fitting list es place new) where
  old : Whole list
  old = index-facts list f.whole

  split : Split place 0 (commands_of list)
  split = starts-split place 0 (commands_of list) f.starts

  abbrev us : List (List ℕ)
  us = split.before

  abbrev c : List ℕ
  c = split.command

  abbrev cs : List (List ℕ)
  cs = split.after

  abbrev d : List ℕ
  d = head new

  words-here : words_in us ≡ place
  words-here = omega (arith, split.here)

  c-words : words_of (first_number c) ≡ whole_words new
  c-words =
      words-at list us c cs split.all ∙ ap (λ (p : ℕ). words_of (number_in (word_at list p))) words-here ∙ sym f.equal

  d-words : words_of (first_number d) ≡ whole_words new
  d-words = head-words new f.some

  d-alone : Alone d
  d-alone = head-alone new f.some

  all-alone : AllAlone (us ++ c ∷ cs)
  all-alone = subst AllAlone split.all (parsed list).alone

  c-alone : Alone c
  c-alone = (alone-after us (c ∷ cs) all-alone).0

  new-alone : AllAlone (us ++ d ∷ cs)
  new-alone = alone-append us (d ∷ cs) (alone-before us (c ∷ cs) all-alone) (d-alone, (alone-after us (c ∷ cs) all-alone).1)

  list-is : list ≡ joined us ++ (c ++ joined cs)
  list-is = sym (joined-whole list old.none) ∙ ap joined split.all ∙ joined-append us (c ∷ cs)

  us-long : length (joined us) ≡ 8 * place
  us-long = length-joined us (alone-before us (c ∷ cs) all-alone) ∙ ap (λ (n : ℕ). 8 * n) words-here

  same-long : length c ≡ length d
  same-long = omega (arith, c-alone, d-alone, c-words, d-words)

  new_is : with_command list place new ≡ joined (us ++ d ∷ cs)
  unfolding pasted overwrite
  new_is =
      ap (pasted (8 * place) d) list-is ∙
      (λ i. take_at (joined us) (c ++ joined cs) (8 * place) us-long i ++ (d ++ drop (length d) (drop_at (joined us) (c ++ joined cs) (8 * place) us-long i))) ∙
      ap (λ (l : List ℕ). joined us ++ (d ++ l)) (drop_at c (joined cs) (length d) same-long) ∙
      sym (joined-append us (d ∷ cs))

  same_count : 8 * words_in (us ++ d ∷ cs) ≡ 8 * words_in (us ++ c ∷ cs)
  same_count = omega (arith, words_append us (d ∷ cs), words_append us (c ∷ cs), c-words, d-words)

  pub replaced : Replaced list place new (with_command list place new)
  replaced =
      record {
        before = us;
        command = c;
        after = cs;
        commands = split.all;
        here = words-here;
        commands' = ap commands_of new_is ∙ commands-joined (us ++ d ∷ cs) new-alone;
        none' = ap rest_of new_is ∙ rest-joined (us ++ d ∷ cs) new-alone;
        same_length =
            ap length new_is ∙
            length-joined (us ++ d ∷ cs) new-alone ∙
            same_count ∙
            sym (ap length (sym (joined-whole list old.none) ∙ ap joined split.all) ∙ length-joined (us ++ c ∷ cs) all-alone);
        same-words = d-words ∙ sym c-words;
        inside = omega (arith, ap length list-is, length-append (joined us) (c ++ joined cs), length-append c (joined cs), us-long, c-alone, c-words);
      }

  -- as many entries as before
  pub same_entries : length (entries_of (with_command list place new)) ≡ length (entries_of list)
  same_entries =
      let list' : List ℕ = with_command list place new in
      let r = replaced in
      let count : length (commands_of list') ≡ length (commands_of list) =
      ap length r.commands' ∙
      length-append r.before (head new ∷ r.after) ∙
      sym (length-append r.before (r.command ∷ r.after)) ∙
      ap length (sym r.commands) in
      entries-count 0 0 0 (commands_of list') (omega arith) ∙
      ap (λ (n : ℕ). 2 * ((n + 63 - 0) / 64)) count ∙
      sym (entries-count 0 0 0 (commands_of list) (omega arith))

  pub new-whole : ((index_answer (with_command list place new)).number ≡ 0) × ((index_answer (with_command list place new)).place ≡ (index_answer list).place)
  new-whole =
      let list' : List ℕ = with_command list place new in
      let r = replaced in
      let short : length list' ≤ 32768 = omega (arith, r.same_length, old.short) in
      let words : length list' % 8 ≡ 0 = ap (λ (n : ℕ). n % 8) r.same_length ∙ old.words in
      let e = index-whole list' short words r.none' in (
        sym (ap (λ (a : Answer). a.number) e),
        sym (ap (λ (a : Answer). a.place) e) ∙ ap (λ (n : ℕ). n / 2) same_entries ∙ sym old.counted,
      )

-- ---- the whole

pub replace-refused :
    (list es : List ℕ) (place : ℕ) (new : List ℕ) (r : Answer) → ReplacementIs list es place new r → (r.number ≡ 0 → ⊥) → ReplaceIs list es place new r list es
replace-refused list es place new r i h =
    record { answers = i.answers; refused = λ _. (refl, refl); writes = λ z. absurd (h z); renews = λ z. absurd (h z) }

pub replace-done :
    (list es : List ℕ) (place : ℕ) (new : List ℕ) (r : Answer) → ReplacementIs list es place new r → r.number ≡ 0 →
    (list' es' : List ℕ) → list' ≡ with_command list place new → es' ≡ renewed (entries_of list') place es → ReplaceIs list es place new r list' es'
replace-done list es place new r i z list' es' w e =
    record {
      answers = i.answers;
      refused = λ h. absurd (h z);
      writes = λ _. w;
      renews = λ _. e ∙ ap (λ (l : List ℕ). renewed (entries_of l) place es) w;
    }

-- where replacing answers 0, the new command can be put at the place
pub answer-fits : (list es : List ℕ) (place : ℕ) (new : List ℕ) → (replace_answer list es place new).number ≡ 0 → Fitting list es place new
answer-fits list es place new z =
    let b = build_answer list es in
    let a = ask_of list es place in
    let s = starts_at place 0 (commands_of list) in
    let w = whole_words new in
    let n = words_of (number_in (word_at list place)) in
    let contrary : (r : Answer) → ReplacementIs list es place new r → (r.number ≡ 0 → ⊥) → Fitting list es place new =
    λ r i h. absurd (h (ap (λ (x : Answer). x.number) i.answers ∙ z)) in
    by-test (eqb b.number 0)
    (λ tb.
    let zb = eqb-true b.number 0 tb in
    by-test (eqb a.number 0)
    (λ ta.
    let za = eqb-true a.number 0 ta in
    by-test (not s) (λ ns. contrary _ (refuse-start list es place new b refl zb a refl za s refl ns) (λ e. suc-ne-zero 23 e))
    (λ ts.
    by-test (eqb w 0) (λ tw. contrary _ (refuse-cut list es place new b refl zb a refl za s refl ts w refl (eqb-true w 0 tw)) (λ e. suc-ne-zero 2 e))
    (λ fw.
    let some = eqb-false w 0 fw in
    by-test (eqb w n) (λ t. (fitting list es place new b refl zb a refl za s refl ts w refl some n refl (eqb-true w n t)).fits refl)
    (λ f. contrary _ (refuse-length list es place new b refl zb a refl za s refl ts w refl some n refl (eqb-false w n f)) (λ e. suc-ne-zero 24 e)))))
    (λ fa. contrary _ (refuse-asked list es place new b refl zb a refl (eqb-false a.number 0 fa)) (eqb-false a.number 0 fa)))
    (λ fb. contrary _ (refuse-built list es place new b refl (eqb-false b.number 0 fb)) (eqb-false b.number 0 fb))

-- where there is room for the entries
pub room-enough : (list old : List ℕ) → (build_answer list old).number ≡ 0 → Whole list
room-enough list old z = index-facts list (room-zero (length old / 2) (index_answer list) z).0

-- ---- what is accepted

-- for entries built from this list, a whole command of equal length is taken at the place of every command
pub accepted :
    (list old : List ℕ) → (build_answer list old).number ≡ 0 →
    (us : List (List ℕ)) (c : List ℕ) (cs : List (List ℕ)) → commands_of list ≡ us ++ c ∷ cs →
    (new : List ℕ) → (whole_words new ≡ 0 → ⊥) → whole_words new ≡ words_of (first_number c) →
    replace_answer list (entries_of list) (words_in us) new ≡ answer 0 (words_in us)
accepted list old z us c cs e new some equal =
    let es : List ℕ = entries_of list in
    let place : ℕ = words_in us in
    let w = room-enough list old z in
    let index = index-whole list w.short w.words w.none in
    let room = ap (room_answer (length es / 2)) (sym index) ∙ room_fits list (entry_count list) (le_refl _) in
    let asked = ask-built list us c cs w.short w.words e in
    let zero-place : 0 + place ≡ place = omega arith in
    let starts : true ≡ starts_at place 0 (commands_of list) =
    sym (ap (starts_at place 0) e ∙ subst (λ (p : ℕ). starts_at p 0 (us ++ c ∷ cs) ≡ true) zero-place (starts-here 0 us c cs)) in
    sym
    (fitting list es place new (answer 0 (entry_count list)) (sym room) refl (asked_at place (hazards_through 0 us) (length us % 64 + 1)) (sym asked) refl true starts
    refl (whole_words new) refl some (words_of (first_number c)) (words-at list us c cs e) equal).answers
