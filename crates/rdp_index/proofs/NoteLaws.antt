-- The entries of a list, as the loop of building notes them. Assumes nothing.
use Rattle.std.proofs.Common.{◌≡◌, refl, sym, ap, ◌∙◌, List, [], ◌∷◌, ◌++◌, append-nil, ℕ, zero, suc, ◌+◌, ◌*◌, ◌-◌, ◌/◌, ◌%◌, ◌≤◌, ◌<◌, suc-ne-zero, arith, le-ltb, lt-ltb, eq-eqb, ne_eqb, ltb-true, ltb-false, eqb-true, eqb, ltb, length, take, set, length-set, drop-cons, take-suc-set, length-take-le}
use borrow.Author.Tests.{eqb-false}
use Rattle.std.proofs.Math.Seq.{append_snoc}
use Rattle.rdp_words.specs.Words.{overwrite}
use Rattle.rdp_words.specs.Kinds.{words_of}
use Rattle.rdp_words.specs.Lengths.{first_number}
use Rattle.rdp_words.specs.Grounds.{Answer}
use Rattle.rdp_command.specs.Decode.{answer}
use Rattle.rdp_words.proofs.Tests.{by-test}
use Rattle.rdp_hazards.specs.Hazards.{next_of}
use Rattle.rdp_check.specs.Commands.{commands_of, rest_of, words_in}
use Rattle.rdp_check.specs.Check.{State, start, after_command, no_refusals, judge, outcome_within}
use Rattle.rdp_hazards.proofs.HazardLaws.{next_small}
use Rattle.rdp_check.proofs.JoinLaws.{command-some, words_inside, length-split}
use Rattle.rdp_index.specs.Index.{entries_from, entries_of, entry_count, index_answer, room_answer, build_answer, build_out, BuildIs}
use Rattle.rdp_index.specs.Steps.{IndexIs}

-- ---- 1, 2 and 3

judged-whole : (s : State) (at : ℕ) (cs : List (List ℕ)) → (judge no_refusals s at cs []).number ≡ 0
unfolding judge
judged-whole s at [] = refl
judged-whole s at (c ∷ cs) = judged-whole (after_command s c) (at + words_of (first_number c)) cs

judged-cut : (s : State) (at : ℕ) (cs : List (List ℕ)) (b : ℕ) (bs : List ℕ) → (judge no_refusals s at cs (b ∷ bs)).number ≡ 3
unfolding judge
judged-cut s at [] b bs = refl
judged-cut s at (c ∷ cs) b bs = judged-cut (after_command s c) (at + words_of (first_number c)) cs b bs

judged-at : (s : State) (at : ℕ) (cs : List (List ℕ)) (b : ℕ) (bs : List ℕ) → (judge no_refusals s at cs (b ∷ bs)).place ≡ at + words_in cs
unfolding judge
judged-at s at [] b bs = omega arith
judged-at s at (c ∷ cs) b bs = omega (arith, judged-at (after_command s c) (at + words_of (first_number c)) cs b bs)

module _ (list : List ℕ) where
  pub index-long : 32768 < length list → answer 1 4096 ≡ index_answer list
  unfolding index_answer outcome_within
  index-long h = rw (lt-ltb 32768 (length list) h)

  module _ (short : length list ≤ 32768) where
    pub index-odd : (length list % 8 ≡ 0 → ⊥) → answer 2 (length list / 8) ≡ index_answer list
    unfolding index_answer outcome_within
    index-odd h = rw (le-ltb 32768 (length list) short, ne_eqb _ _ h)

    module _ (words : length list % 8 ≡ 0) where
      pub index-whole : rest_of list ≡ [] → answer 0 (entry_count list) ≡ index_answer list
      unfolding index_answer outcome_within
      index-whole e =
          rw (le-ltb 32768 (length list) short, eq-eqb _ _ words, e, judged-whole start 0 (commands_of list))

      pub index-cut : (b : ℕ) (bs : List ℕ) → rest_of list ≡ b ∷ bs → answer 3 (words_in (commands_of list)) ≡ index_answer list
      unfolding index_answer outcome_within
      index-cut b bs e =
          let at : (judge no_refusals start 0 (commands_of list) (b ∷ bs)).place ≡ words_in (commands_of list) =
          omega (arith, judged-at start 0 (commands_of list) b bs) in
          rw (le-ltb 32768 (length list) short, eq-eqb _ _ words, e, judged-cut start 0 (commands_of list) b bs, at)

-- ---- what 0 says of a list

pub record Whole (list : List ℕ) : Type 0 where
  pub short : length list ≤ 32768
  pub words : length list % 8 ≡ 0
  pub none : rest_of list ≡ []
  pub counted : (index_answer list).place ≡ entry_count list

module _ (list : List ℕ) (z : (index_answer list).number ≡ 0) where
  whole-rest : length list ≤ 32768 → length list % 8 ≡ 0 → (rest : List ℕ) → rest_of list ≡ rest → Whole list
  whole-rest s w [] e = record { short = s; words = w; none = e; counted = ap (λ (a : Answer). a.place) (sym (index-whole list s w e)) }
  whole-rest s w (b ∷ bs) e = absurd (suc-ne-zero 2 (ap (λ (a : Answer). a.number) (index-cut list s w b bs e) ∙ z))

  pub index-facts : Whole list
  index-facts =
      by-test (ltb 32768 (length list))
      (λ t. absurd (suc-ne-zero 0 (ap (λ (a : Answer). a.number) (index-long list (ltb-true _ _ t)) ∙ z)))
      (λ f.
      let s : length list ≤ 32768 = ltb-false _ _ f in
      by-test (eqb (length list % 8) 0) (λ t. whole-rest s (eqb-true _ _ t) (rest_of list) refl)
      (λ g. absurd (suc-ne-zero 1 (ap (λ (a : Answer). a.number) (index-odd list s (eqb-false _ _ g)) ∙ z))))

pub refused : (list : List ℕ) (number place : ℕ) (made : List ℕ) → answer (suc number) place ≡ index_answer list → IndexIs list (answer (suc number) place) made
refused list number place made e =
    record { answers = e; entries = λ z. absurd (suc-ne-zero number z); few = λ z. absurd (suc-ne-zero number z) }

-- ---- the loop

entries-end : (left at m : ℕ) → entries_from left at m [] ≡ []
unfolding entries_from
entries-end zero at m = refl
entries-end (suc left) at m = refl

none-long : (l : List ℕ) → length l ≡ 0 → l ≡ []
none-long [] e = refl
none-long (x ∷ xs) e = absurd (suc-ne-zero (length xs) e)

-- two stores after 2 e numbers
noted_more :
    (made : List ℕ) (e at m : ℕ) → 2 * e + 1 < length made →
    take (2 * (e + 1)) (set (set made (2 * e) at) (2 * e + 1) m) ≡ take (2 * e) made ++ (at ∷ []) ++ (m ∷ [])
noted_more made e at m h =
    let i : ℕ = 2 * e in
    let two : 2 * (e + 1) ≡ suc (suc i) = omega arith in
    let one : i + 1 ≡ suc i = omega arith in
    let room : suc i < length (set made i at) = rw (length-set made i at) (omega arith) in
    ap (λ (k : ℕ). take k (set (set made i at) (i + 1) m)) two ∙
    ap (λ (k : ℕ). take (suc (suc i)) (set (set made i at) k m)) one ∙
    take-suc-set (set made i at) (suc i) m room ∙
    ap (λ (l : List ℕ). l ++ (m ∷ [])) (take-suc-set made i at (omega arith))

-- what holds at the head of the loop: what is noted, and what is to come for the bytes that are left, are the entries
pub record Noting (list left made : List ℕ) (at m k entries : ℕ) : Type 0 where
  pub whole : length list % 8 ≡ 0
  pub short : length list ≤ 32768
  pub low : m < 16
  pub long : length made ≡ 128
  pub soon : k ≤ 63
  pub room : 64 * entries ≤ at + k
  pub place : at + words_in (commands_of left) ≡ words_in (commands_of list)
  pub noted : take (2 * entries) made ++ entries_from k at m (commands_of left) ≡ entries_of list

pub first : (list made : List ℕ) → length list % 8 ≡ 0 → length list ≤ 32768 → length made ≡ 128 → Noting list list made 0 0 0 0
first list made w s l =
    record {
      whole = w;
      short = s;
      low = omega arith;
      long = l;
      soon = omega arith;
      room = omega arith;
      place = omega arith;
      noted = refl;
    }

module _ {list left made : List ℕ} {at m k entries : ℕ} (t : Noting list left made at m k entries) where
  pub few-words : at ≤ 4096
  few-words = omega (arith, t.place, t.short, words_inside list)

  pub few-entries : entries ≤ 64
  few-entries = omega (arith, t.room, few-words, t.soon)

  module _ (none : commands_of left ≡ []) where
    all : at ≡ words_in (commands_of list)
    all = omega (arith, t.place, ap words_in none)

    pub ended : length list / 8 ≤ at → IndexIs list (answer 0 entries) made
    ended h =
        let done : List ℕ = take (2 * entries) made in
        let nothing : entries_from k at m (commands_of left) ≡ [] = ap (entries_from k at m) none ∙ entries-end k at m in
        let e : done ≡ entries_of list = sym (append-nil done) ∙ ap (λ (l : List ℕ). done ++ l) (sym nothing) ∙ t.noted in
        let r : rest_of list ≡ [] = none-long (rest_of list) (omega (arith, length-split list, all, t.whole)) in
        let long : length done ≡ 2 * entries = length-take-le (2 * entries) made (omega (arith, few-entries, t.long)) in
        let count : entries ≡ entry_count list = omega (arith, ap length e, long) in
        record {
          answers = ap (answer 0) count ∙ index-whole list t.short t.whole r;
          entries = λ z. e;
          few = λ z. few-entries;
        }

    pub cut : at < length list / 8 → IndexIs list (answer 3 at) made
    cut h =
        let some : 0 < length (rest_of list) = omega (arith, length-split list, all) in
        let e = drop-cons (rest_of list) 0 0 some in
        refused list 2 at made (ap (answer 3) all ∙ index-cut list t.short t.whole _ _ e)

  module _ (c left' : List ℕ) (next : commands_of left ≡ c ∷ commands_of left') (n : ℕ) (is : n ≡ first_number c) (count : ℕ) (long : count ≡ words_of n) where
    count-is : count ≡ words_of (first_number c)
    count-is = long ∙ ap words_of is

    some : 1 ≤ count
    some = omega (arith, count-is, command-some c)

    place-next : at + count + words_in (commands_of left') ≡ words_in (commands_of list)
    place-next = omega (arith, t.place, ap words_in next, count-is)

    pub fits : at + count ≤ 4096
    fits = omega (arith, place-next, t.short, words_inside list)

    pub has_room : k ≡ 0 → entries < 64
    has_room z = omega (arith, t.room, some, fits)

    module _ (m' : ℕ) (is-next : m' ≡ next_of m n) where
      next-is : m' ≡ next_of m (first_number c)
      next-is = is-next ∙ ap (next_of m) is

      pub again : (k ≡ 0 → ⊥) → Noting list left' made (at + count) m' (k - 1) entries
      unfolding entries_from
      again h =
          let one : k ≡ suc (k - 1) = omega arith in
          record {
            whole = t.whole;
            short = t.short;
            low = rw is-next (next_small m n);
            long = t.long;
            soon = omega (arith, t.soon);
            room = omega (arith, t.room, some);
            place = place-next;
            noted =
                ap (λ (l : List ℕ). take (2 * entries) made ++ l)
                ((λ i. entries_from (k - 1) (at + count-is i) (next-is i) (commands_of left')) ∙
                sym (ap (entries_from (suc (k - 1)) at m) next) ∙
                ap (λ (j : ℕ). entries_from j at m (commands_of left)) (sym one)) ∙
                t.noted;
          }

      module _ (z : k ≡ 0) where
        noted-now : entries_from k at m (commands_of left) ≡ at ∷ m ∷ entries_from 63 (at + count) m' (commands_of left')
        unfolding entries_from
        noted-now = rw (z, next, ← count-is, ← next-is)

        pub again-noted : Noting list left' (set (set made (2 * entries) at) (2 * entries + 1) m) (at + count) m' 63 (entries + 1)
        again-noted =
            record {
              whole = t.whole;
              short = t.short;
              low = rw is-next (next_small m n);
              long = length-set (set made (2 * entries) at) (2 * entries + 1) m ∙ length-set made (2 * entries) at ∙ t.long;
              soon = omega arith;
              room = omega (arith, t.room, some);
              place = place-next;
              noted =
                  ap (λ (l : List ℕ). l ++ entries_from 63 (at + count) m' (commands_of left'))
                  (noted_more made entries at m (omega (arith, has_room z, t.long))) ∙
                  append_snoc (take (2 * entries) made ++ (at ∷ [])) m (entries_from 63 (at + count) m' (commands_of left')) ∙
                  append_snoc (take (2 * entries) made) at (m ∷ entries_from 63 (at + count) m' (commands_of left')) ∙
                  ap (λ (l : List ℕ). take (2 * entries) made ++ l) (sym noted-now) ∙
                  t.noted;
            }

-- ---- building

-- what is refused before the room counts is refused
pub room-refused : (room : ℕ) (a : Answer) → (a.number ≡ 0 → ⊥) → room_answer room a ≡ a
unfolding room_answer
room-refused room a h = rw (ne_eqb _ _ h)

-- where the room is taken, all entries fit
pub record Taken (room found count : ℕ) : Type 0 where
  pub all : count ≡ found
  pub fits : found ≤ room

pub room-taken : (room found count : ℕ) → answer 0 count ≡ room_answer room (answer 0 found) → Taken room found count
unfolding room_answer
room-taken room found count e =
    by-test (ltb room found)
    (λ t. absurd (suc-ne-zero 13 (sym (ap (λ (a : Answer). a.number) (rw t at e)))))
    (λ f. record { all = ap (λ (a : Answer). a.place) (rw f at e); fits = ltb-false _ _ f })

module _ (list old : List ℕ) (r : Answer) (is : r ≡ build_answer list old) where
  pub build-refused : (r.number ≡ 0 → ⊥) → BuildIs list old r old
  unfolding build_out
  build-refused h = record { answers = is; writes = rw (← is, ne_eqb r.number 0 h) }

  pub build-done : r.number ≡ 0 → (new : List ℕ) → new ≡ overwrite (entries_of list) old → BuildIs list old r new
  unfolding build_out
  build-done z new w = record { answers = is; writes = rw (← is, eq-eqb r.number 0 z) w }
