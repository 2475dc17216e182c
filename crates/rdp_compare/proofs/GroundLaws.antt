-- Grounds 1 to 3 of a list as the code finds them, and the answer of the comparison by them. Assumes nothing.
use Rattle.std.proofs.Common.{ℕ, ◌+◌, ◌*◌, ◌/◌, ◌%◌, ◌<◌, ◌≤◌, true, false, cond, not, List, [], ◌∷◌, ◌++◌, append_assoc, ◌≡◌, refl, sym, ap, subst, ◌∙◌, suc-ne-zero, arith, lt-ltb, le-ltb, eq-eqb, ne_eqb, ltb-false, eqb-true, eqb, ltb, length}
use borrow.Author.Tests.{eqb-false}
use Rattle.std.specs.List.{sum_by}
use Rattle.std.proofs.lemmas.List.Sums.{sum_by-cons}
use Rattle.rdp_words.specs.Words.{overwrite}
use Rattle.rdp_words.specs.Kinds.{words_of}
use Rattle.rdp_words.specs.Lengths.{first_number}
use Rattle.rdp_words.specs.Grounds.{Answer}
use Rattle.rdp_command.specs.Decode.{answer}
use Rattle.rdp_words.proofs.Tests.{by-test}
use Rattle.rdp_check.specs.Commands.{commands_of, rest_of, words_in}
use Rattle.rdp_check.specs.Order.{Ground, ground, first_of}
use Rattle.rdp_check.specs.Check.{State, start, after_command, no_refusals}
use Rattle.rdp_check.specs.Refusals.{is_some, command_grounds, grounds_of}
use Rattle.rdp_check.proofs.JoinLaws.{AllAlone, length-split}
use Rattle.rdp_compare.specs.Entries.{pair_entries, decode_grounds, room_grounds, compare_answer, entries_after}
use Rattle.rdp_compare.specs.Part.{RestStart, in_first, longer_in, rest_start}
use Rattle.rdp_compare.specs.Steps.{decode_answer}

some-long : (bs : List ℕ) → 0 < length bs → is_some bs ≡ true
some-long [] h = absurd (omega arith)
some-long (b ∷ bs) h = refl

no-bytes : (bs : List ℕ) → length bs ≡ 0 → is_some bs ≡ false
no-bytes [] e = refl
no-bytes (b ∷ bs) e = absurd (omega arith)

-- ---- the end of a list's commands

-- the bytes of its commands
pub summed : (cs : List (List ℕ)) → AllAlone cs → sum_by (length {A = ℕ}) cs ≡ 8 * words_in cs
summed [] h = refl
summed (c ∷ cs) h = sum_by-cons (length {A = ℕ}) c cs ∙ omega (arith, h.0, summed cs h.1)

abbrev pub cut_answer : List ℕ → ℕ → Answer
cut_answer list words = cond (is_some (rest_of list)) (answer 3 (words_in (commands_of list))) (answer 0 words)

module _ (list : List ℕ) (words : ℕ) {end : ℕ} (is : end ≡ 8 * words_in (commands_of list)) where
  pub cut : end < length list → answer 3 (end / 8) ≡ cut_answer list words
  cut h =
      let s : is_some (rest_of list) ≡ true = some-long (rest_of list) (omega (arith, length-split list)) in
      let w : end / 8 ≡ words_in (commands_of list) = omega arith in
      rw s (ap (answer 3) w)

  pub no_cut : length list ≤ end → answer 0 words ≡ cut_answer list words
  no_cut h = rw (no-bytes (rest_of list) (omega (arith, length-split list)))

-- ---- the grounds of a list: those of the check where a command has none of its own

only-cut : (s : State) (at : ℕ) (cs : List (List ℕ)) (bs : List ℕ) → command_grounds no_refusals s at cs bs ≡ ground (answer 3 (at + words_in cs)) (is_some bs) ∷ []
unfolding command_grounds
only-cut s at [] bs = let e : at ≡ at + 0 = omega arith in ap (λ (k : ℕ). ground (answer 3 k) (is_some bs) ∷ []) e
only-cut s at (c ∷ cs) bs =
    let e : (at + words_of (first_number c)) + words_in cs ≡ at + (words_of (first_number c) + words_in cs) = omega arith in
    only-cut (after_command s c) (at + words_of (first_number c)) cs bs ∙ ap (λ (k : ℕ). ground (answer 3 k) (is_some bs) ∷ []) e

-- 1, 2 and 3
abbrev pub three_grounds : List ℕ → List (Ground Answer)
three_grounds list =
    ground (answer 1 4096) (ltb 32768 (length list))
    ∷ ground (answer 2 (length list / 8)) (not (eqb (length list % 8) 0))
    ∷ ground (answer 3 (words_in (commands_of list))) (is_some (rest_of list))
    ∷ []

pub grounds-are : (list : List ℕ) → decode_grounds list ≡ three_grounds list
unfolding grounds_of
grounds-are list =
    let e : 0 + words_in (commands_of list) ≡ words_in (commands_of list) = omega arith in
    ap (λ (gs : List (Ground Answer)). ground (answer 1 4096) (ltb 32768 (length list)) ∷ ground (answer 2 (length list / 8)) (not (eqb (length list % 8) 0)) ∷ gs)
    (only-cut start 0 (commands_of list) (rest_of list) ∙ ap (λ (k : ℕ). ground (answer 3 k) (is_some (rest_of list)) ∷ []) e)

-- ---- the first ground of a list

module _ (list : List ℕ) where
  abbrev pub first_of_three : Answer
  first_of_three = first_of (three_grounds list) (answer 0 (length list / 8))

  pub opened : decode_answer list ≡ first_of_three
  opened = ap (λ (gs : List (Ground Answer)). first_of gs (answer 0 (length list / 8))) (grounds-are list)

  long-first : 32768 < length list → answer 1 4096 ≡ first_of_three
  long-first h = rw (lt-ltb _ _ h)

  words-first : length list ≤ 32768 → (length list % 8 ≡ 0 → ⊥) → answer 2 (length list / 8) ≡ first_of_three
  words-first h ne = rw (le-ltb _ _ h, ne_eqb _ _ ne)

  cut-first : length list ≤ 32768 → length list % 8 ≡ 0 → {r : Answer} → r ≡ cut_answer list (length list / 8) → r ≡ first_of_three
  cut-first h e f = rw (le-ltb _ _ h, eq-eqb _ _ e) f

  pub too_long : 32768 < length list → answer 1 4096 ≡ decode_answer list
  too_long h = long-first h ∙ sym opened

  pub not-words : length list ≤ 32768 → (length list % 8 ≡ 0 → ⊥) → answer 2 (length list / 8) ≡ decode_answer list
  not-words h ne = words-first h ne ∙ sym opened

  pub by-cut : length list ≤ 32768 → length list % 8 ≡ 0 → {r : Answer} → r ≡ cut_answer list (length list / 8) → r ≡ decode_answer list
  by-cut h e f = cut-first h e f ∙ sym opened

  -- where none holds
  short : first_of_three.number ≡ 0 → length list ≤ 32768
  short z = by-test (ltb 32768 (length list)) (λ t. absurd (suc-ne-zero 0 (rw t at z))) (λ f. ltb-false _ _ f)

  pub sound : (decode_answer list).number ≡ 0 → length list ≤ 32768
  sound z = short (ap (λ (x : Answer). x.number) (sym opened) ∙ z)

-- ---- grounds one after the other

abbrev Numbered : List (Ground Answer) → Type 0
Numbered [] = Unit {0}
Numbered (g ∷ gs) = (g.gives.number ≡ 0 → ⊥) × Numbered gs

numbered-both : (gs hs : List (Ground Answer)) → Numbered gs → Numbered hs → Numbered (gs ++ hs)
numbered-both [] hs p q = q
numbered-both (g ∷ gs) hs p q = (p.0, numbered-both gs hs p.1 q)

module _ (k : ℕ) (hs : List (Ground Answer)) (other : Answer) where
  refused : (gs : List (Ground Answer)) → ((first_of gs (answer 0 k)).number ≡ 0 → ⊥) → first_of (gs ++ hs) other ≡ first_of gs (answer 0 k)
  refused [] ne = absurd (ne refl)
  refused (g ∷ gs) ne = by-test g.holds (λ t. rw t) (λ f. rw f (refused gs (λ e. ne (rw f e))))

  passed : (gs : List (Ground Answer)) → Numbered gs → (first_of gs (answer 0 k)).number ≡ 0 → first_of (gs ++ hs) other ≡ first_of hs other
  passed [] nz e = refl
  passed (g ∷ gs) nz e = by-test g.holds (λ t. absurd (nz.0 (rw t at e))) (λ f. rw f (passed gs nz.1 (rw f at e)))

numbered : (list : List ℕ) → Numbered (decode_grounds list)
numbered list = subst Numbered (sym (grounds-are list)) (suc-ne-zero 0, (suc-ne-zero 1, (suc-ne-zero 2, tt)))

-- ---- the grounds of both lists

module _ (first second : List ℕ) where
  abbrev pub both_grounds : List (Ground Answer)
  both_grounds = decode_grounds first ++ decode_grounds second

  abbrev pub both_answer : Answer
  both_answer = first_of both_grounds (answer 0 (length second / 8))

  pub of-first : {r : Answer} → r ≡ decode_answer first → (r.number ≡ 0 → ⊥) → r ≡ both_answer
  of-first e ne =
      e ∙
      sym
      (refused (length first / 8) (decode_grounds second) (answer 0 (length second / 8)) (decode_grounds first)
      (λ z. ne (ap (λ (x : Answer). x.number) e ∙ z)))

  pub of-second : {one two : Answer} → one ≡ decode_answer first → one.number ≡ 0 → two ≡ decode_answer second → two ≡ both_answer
  of-second e z f =
      f ∙
      sym
      (passed (length first / 8) (decode_grounds second) (answer 0 (length second / 8)) (decode_grounds first) (numbered first)
      (ap (λ (x : Answer). x.number) (sym e) ∙ z))

  -- where none holds, both lists are short enough
  module _ {r : Answer} (is : r ≡ both_answer) (zero : r.number ≡ 0) where
    none : both_answer.number ≡ 0
    none = ap (λ (x : Answer). x.number) (sym is) ∙ zero

    none_first : (decode_answer first).number ≡ 0
    none_first =
        by-test (eqb (decode_answer first).number 0) (λ t. eqb-true _ _ t)
        (λ f.
        let ne = eqb-false (decode_answer first).number 0 f in
        absurd (ne (ap (λ (x : Answer). x.number) (of-first refl ne) ∙ none)))

    pub first-sound : length first ≤ 32768
    first-sound = sound first none_first

    pub second-sound : length second ≤ 32768
    second-sound = sound second (ap (λ (x : Answer). x.number) (of-second refl none_first refl) ∙ none)

-- ---- the answer of the comparison, by the room

module _ (first second : List ℕ) (room : ℕ) {r : Answer} (is : r ≡ both_answer first second) where
  abbrev needed : ℕ
  needed = length (pair_entries first second)

  joined : compare_answer first second room ≡ first_of (both_grounds first second ++ room_grounds room needed) (answer 0 needed)
  unfolding compare_answer
  joined =
      ap (λ (gs : List (Ground Answer)). first_of gs (answer 0 needed))
      (sym (append_assoc (decode_grounds first) (decode_grounds second) (room_grounds room needed)))

  pub not-decoded : (r.number ≡ 0 → ⊥) → compare_answer first second room ≡ r
  not-decoded ne =
      joined ∙
      refused (length second / 8) (room_grounds room needed) (answer 0 needed) (both_grounds first second) (λ z. ne (ap (λ (x : Answer). x.number) is ∙ z)) ∙
      sym is

  module _ (zero : r.number ≡ 0) {count : ℕ} (is-count : count ≡ needed) where
    by-room : compare_answer first second room ≡ first_of (room_grounds room needed) (answer 0 needed)
    by-room =
        joined ∙
        passed (length second / 8) (room_grounds room needed) (answer 0 needed) (both_grounds first second)
        (numbered-both (decode_grounds first) (decode_grounds second) (numbered first) (numbered second)) (ap (λ (x : Answer). x.number) (sym is) ∙ zero)

    pub no_room : room < count → compare_answer first second room ≡ answer 14 count
    no_room h =
        let s : room < needed = omega (arith, is-count) in
        by-room ∙ rw (lt-ltb _ _ s) (ap (answer 14) (sym is-count))

    pub enough : count ≤ room → compare_answer first second room ≡ answer 0 count
    enough h =
        let s : needed ≤ room = omega (arith, is-count) in
        by-room ∙ rw (le-ltb _ _ s) (ap (answer 0) (sym is-count))

-- ---- the buffer, and where the rest begins

module _ (first second old : List ℕ) where
  pub untouched :
      {r : Answer} → compare_answer first second (length old) ≡ r → (r.number ≡ 0 → ⊥) →
      (r ≡ compare_answer first second (length old)) × (old ≡ entries_after first second old)
  unfolding entries_after
  untouched e ne = (sym e, rw (ne_eqb _ _ (λ z. ne (ap (λ (x : Answer). x.number) (sym e) ∙ z))))

  pub written :
      {count : ℕ} → compare_answer first second (length old) ≡ answer 0 count → {new : List ℕ} → new ≡ overwrite (pair_entries first second) old →
      (answer 0 count ≡ compare_answer first second (length old)) × (new ≡ entries_after first second old)
  unfolding entries_after
  written a e = (sym a, e ∙ rw a)

module _ (first second : List ℕ) (room : ℕ) where
  pub refused_end :
      {r : Answer} → compare_answer first second room ≡ r → (r.number ≡ 0 → ⊥) → in_first r.number (length first) ≡ rest_start first second room
  unfolding rest_start
  refused_end {r} e ne =
      let n : (compare_answer first second room).number ≡ r.number = ap (λ (x : Answer). x.number) e in
      rw (ne_eqb (compare_answer first second room).number 0 (λ z. ne (sym n ∙ z))) (ap (λ (k : ℕ). in_first k (length first)) (sym n))

  pub handed : {count : ℕ} → compare_answer first second room ≡ answer 0 count → {r : RestStart} → r ≡ longer_in first second → r ≡ rest_start first second room
  unfolding rest_start
  handed a e = e ∙ rw a
