-- A question: the entry that its loop finds, and the commands that its loop reads. Assumes nothing.
use Rattle.std.proofs.Common.{◌≡◌, refl, sym, ap, ◌∙◌, Bool, true, false, ◌||◌, true≢false, List, [], ◌∷◌, ℕ, zero, suc, ◌+◌, ◌*◌, ◌-◌, ◌/◌, ◌%◌, ◌≤◌, ◌<◌, arith, lt-ltb, le-ltb, le-leb, eq-eqb, ne_eqb, ltb-true, ltb-false, leb-true, leb-false, ltb, leb, length, get_or, drop, drop_of_length-le, drop-cons}
use borrow.Author.Tests.{lt-leb}
use Rattle.rdp_words.specs.Words.{word_at, number_in}
use Rattle.rdp_words.specs.Kinds.{words_of}
use Rattle.rdp_words.proofs.Tests.{by-test}
use Rattle.rdp_hazards.specs.Hazards.{next_of}
use Rattle.rdp_check.specs.Commands.{commands_from, rest_from, commands_of, rest_of}
use Rattle.rdp_hazards.proofs.HazardLaws.{next_small}
use Rattle.rdp_check.proofs.ListLaws.{commands-at, rest_at, command-number, commands-past, rest-past}
use Rattle.rdp_index.specs.Index.{refused_at, asked_at, last_before, read_from, read_entry, ask_entry, ask_of}

-- ---- the end of a list

pub record NoneLeft (list : List ℕ) (at : ℕ) : Type 0 where
  pub commands : commands_of (drop (8 * at) list) ≡ []
  pub rest : rest_of (drop (8 * at) list) ≡ []

none_of : (bs : List ℕ) → bs ≡ [] → (commands_of bs ≡ []) × (rest_of bs ≡ [])
unfolding commands_from rest_from
none_of bs e = rw e (refl, refl)

pub none_left : (list : List ℕ) (at : ℕ) → length list ≤ 8 * at → NoneLeft list at
none_left list at h = let n = none_of (drop (8 * at) list) (drop_of_length-le list h) in record { commands = n.0; rest = n.1 }

-- ---- the entry

pub last-most : (place : ℕ) (es : List ℕ) (i : ℕ) → last_before place es i ≤ i
unfolding last_before
last-most place es zero = omega arith
last-most place es (suc i) =
    by-test (leb (get_or es (2 * i) 0) place) (λ t. rw t (omega arith)) (λ f. rw f (omega (arith, last-most place es i)))

pub last_none : (place : ℕ) (es : List ℕ) (i : ℕ) → i ≤ 0 → last_before place es i ≡ 0
last_none place es i h = omega (arith, last-most place es i)

module _ (place : ℕ) (es : List ℕ) where
  pub last-here : (i j : ℕ) → i ≡ suc j → get_or es (2 * j) 0 ≤ place → last_before place es i ≡ i
  unfolding last_before
  last-here i j e h = rw (e, le-leb _ _ h)

  pub last-before : (i j : ℕ) → i ≡ suc j → place < get_or es (2 * j) 0 → last_before place es i ≡ last_before place es j
  unfolding last_before
  last-before i j e h = rw (e, lt-leb _ _ h)

-- ---- the commands

module _ (place read at m : ℕ) where
  read_past : (left : ℕ) (cs : List (List ℕ)) (rest : List ℕ) → place < at → read_from left place read at m cs rest ≡ refused_at 24 place
  unfolding read_from
  read_past zero cs rest h = refl
  read_past (suc left) [] [] h = refl
  read_past (suc left) [] (b ∷ bs) h = rw (lt-leb _ _ h)
  read_past (suc left) (c ∷ cs) rest h = rw (lt-ltb _ _ h)

  read_none : (left : ℕ) → read_from left place read at m [] [] ≡ refused_at 24 place
  unfolding read_from
  read_none zero = refl
  read_none (suc left) = refl

  read-cut : (left b : ℕ) (bs : List ℕ) → at ≤ place → read_from (suc left) place read at m [] (b ∷ bs) ≡ refused_at 3 place
  unfolding read_from
  read-cut left b bs h = rw (le-leb _ _ h)

-- what holds at the head of the loop
pub record Reading (list : List ℕ) (words place start before at m read : ℕ) : Type 0 where
  pub whole : length list ≡ 8 * words
  pub few : words ≤ 4096
  pub low : m < 16
  pub left : ℕ
  pub all : left + read ≡ 64
  pub same : read_from left place read at m (commands_of (drop (8 * at) list)) (rest_of (drop (8 * at) list)) ≡ read_entry list place start before

pub first :
    (list : List ℕ) (place start before : ℕ) → length list % 8 ≡ 0 → length list ≤ 32768 → before < 16 →
    Reading list (length list / 8) place start before start before 0
first list place start before words short l = record { whole = omega arith; few = omega arith; low = l; left = 64; all = refl; same = refl }

module _ {list : List ℕ} {words place start before at m read : ℕ} (r : Reading list words place start before at m read) where
  -- 64 commands are read
  pub ended : 64 ≤ read → refused_at 24 place ≡ read_entry list place start before
  unfolding read_from
  ended h =
      let e : r.left ≡ 0 = omega (arith, r.all) in
      sym (ap (λ (k : ℕ). read_from k place read at m (commands_of (drop (8 * at) list)) (rest_of (drop (8 * at) list))) e) ∙ r.same

  -- the next would start past the asked place or outside the list
  pub outside : (ltb place at || leb words at) ≡ true → refused_at 24 place ≡ read_entry list place start before
  outside t =
      by-test (ltb place at)
      (λ p. sym (read_past place read at m r.left _ _ (ltb-true _ _ p)) ∙ r.same)
      (λ f.
      let past : words ≤ at = leb-true words at (sym (ap (λ (b : Bool). b || leb words at) f) ∙ t) in
      let short : length list ≤ 8 * at = omega (arith, r.whole) in
      let none = none_left list at short in
      sym ((λ i. read_from r.left place read at m (none.commands i) (none.rest i)) ∙ read_none place read at m r.left) ∙ r.same)

  module _ (more : read < 64) (inside : (ltb place at || leb words at) ≡ false) where
    pub reached : at ≤ place
    reached =
        by-test (ltb place at) (λ p. absurd (true≢false (sym (ap (λ (b : Bool). b || leb words at) p) ∙ inside)))
        (λ f. ltb-false _ _ f)

    pub within : at < words
    within =
        by-test (ltb place at) (λ p. absurd (true≢false (sym (ap (λ (b : Bool). b || leb words at) p) ∙ inside)))
        (λ f. leb-false words at (sym (ap (λ (b : Bool). b || leb words at) f) ∙ inside))

    one : suc (r.left - 1) ≡ r.left
    one = omega (arith, r.all)

    abbrev left : ℕ
    left = r.left - 1

    abbrev from : List ℕ
    from = drop (8 * at) list

    turned : read_from (suc left) place read at m (commands_of from) (rest_of from) ≡ read_entry list place start before
    turned = ap (λ (k : ℕ). read_from k place read at m (commands_of from) (rest_of from)) one ∙ r.same

    module _ (n : ℕ) (is : n ≡ number_in (word_at list at)) (count : ℕ) (long : count ≡ words_of n) where
      pub cut : words - at < count → refused_at 3 place ≡ read_entry list place start before
      cut h =
          let past : length list / 8 < at + words_of n = omega (arith, r.whole, within) in
          let bytes : 8 * at < length list = omega (arith, r.whole, within) in
          sym
          ((λ i. read_from (suc left) place read at m (commands-past list at n is past i) ((rest-past list at n is past ∙ drop-cons list (8 * at) 0 bytes) i)) ∙
          read-cut place read at m left _ _ reached) ∙
          turned

      module _ (fits : count ≤ words - at) where
        there : at + words_of n ≤ length list / 8
        there = omega (arith, r.whole, within)

        pub found : at ≡ place → asked_at place m (read + 1) ≡ read_entry list place start before
        unfolding read_from
        found e =
            rw (← turned, commands-at list at n is there, le-ltb _ _ reached, eq-eqb _ _ e)

        pub again :
            (at ≡ place → ⊥) → (next : ℕ) → next ≡ next_of m n → Reading list words place start before (at + count) next (read + 1)
        unfolding read_from
        again apart next is-next =
            record {
              whole = r.whole;
              few = r.few;
              low = rw is-next (next_small m n);
              left = left;
              all = omega (arith, r.all);
              same =
                  rw (
                    ← turned,
                    commands-at list at n is there,
                    rest_at list at n is there,
                    le-ltb _ _ reached,
                    ne_eqb _ _ apart,
                    command-number list at n is there,
                    long,
                    is-next,
                  );
            }

-- ---- the question

module _ (list es : List ℕ) (place : ℕ) where
  pub ask-long : 32768 < length list → refused_at 1 4096 ≡ ask_of list es place
  unfolding ask_of
  ask-long h = rw (lt-ltb 32768 (length list) h)

  module _ (short : length list ≤ 32768) where
    pub ask-odd : (length list % 8 ≡ 0 → ⊥) → refused_at 2 (length list / 8) ≡ ask_of list es place
    unfolding ask_of
    ask-odd h = rw (le-ltb 32768 (length list) short, ne_eqb _ _ h)

    module _ (words : length list % 8 ≡ 0) where
      pub ask-whole : ask_of list es place ≡ ask_entry list es place (last_before place es (length es / 2))
      unfolding ask_of
      ask-whole = rw (le-ltb 32768 (length list) short, eq-eqb _ _ words)

      pub ask-none : last_before place es (length es / 2) ≡ 0 → refused_at 26 place ≡ ask_of list es place
      unfolding ask_entry
      ask-none z = sym (ask-whole ∙ ap (ask_entry list es place) z)

      module _ (i : ℕ) (is : last_before place es (length es / 2) ≡ suc i) where
        at_entry : ask_of list es place ≡ ask_entry list es place (suc i)
        at_entry = ask-whole ∙ ap (ask_entry list es place) is

        pub ask-high : 16 ≤ get_or es (2 * i + 1) 0 → refused_at 26 place ≡ ask_of list es place
        unfolding ask_entry
        ask-high h = rw (at_entry, le-ltb _ _ h)

        pub ask-read :
            get_or es (2 * i + 1) 0 < 16 → read_entry list place (get_or es (2 * i) 0) (get_or es (2 * i + 1) 0) ≡ ask_of list es place
        unfolding ask_entry
        ask-read h = rw (at_entry, lt-ltb _ _ h)
