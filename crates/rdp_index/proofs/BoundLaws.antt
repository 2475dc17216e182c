-- Which answers the three functions of #111 give, and how large their parts are. Assumes nothing.
use Rattle.std.proofs.Common.{ℕ, zero, suc, ◌+◌, ◌*◌, ◌/◌, ◌%◌, ◌≤◌, ◌<◌, Bool, true, false, not, ◌&&◌, List, [], ◌∷◌, ◌≡◌, sym, ap, subst, arith, le-leb, leb-true, ltb-true, ltb-false, T, eqb, leb, ltb, length, get_or, drop}
use Rattle.rdp_words.specs.Words.{word_at, number_in}
use Rattle.rdp_words.specs.Kinds.{among, words_of}
use Rattle.rdp_words.specs.Lengths.{first_number, whole_words}
use Rattle.rdp_words.proofs.Tests.{both, both_of, true_of, by-test}
use Rattle.rdp_words.specs.Grounds.{Answer}
use Rattle.rdp_command.specs.Decode.{answer}
use Rattle.rdp_hazards.specs.Hazards.{next_of}
use Rattle.rdp_hazards.proofs.HazardLaws.{next_small}
use Rattle.rdp_check.specs.Order.{ground, first_of}
use Rattle.rdp_check.specs.Commands.{commands_of, rest_of}
use Rattle.rdp_check.specs.Check.{no_refusals}
use Rattle.rdp_check.specs.Refusals.{is_some}
use Rattle.rdp_check.proofs.JoinLaws.{parsed, count-joined, words_inside}
use Rattle.rdp_check.proofs.OrderLaws.{first_gives}
use Rattle.rdp_check.proofs.FirstLaws.{outcome-gives}
use Rattle.rdp_check.proofs.BoundLaws.{place-most}
use Rattle.rdp_index.specs.Index.{entry_count, wholeness, index_answer, room_answer, build_answer, refused_at, last_before, read_from, ask_entry, ask_of, starts_at, replace_answer}
use Rattle.rdp_index.specs.Index.{Asked}
use Rattle.rdp_index.proofs.BuiltLaws.{count-built}
use Rattle.rdp_index.proofs.NoteLaws.{index-facts}

-- the numbers of their answers
abbrev pub index_numbers : List ℕ
index_numbers = 0 ∷ 1 ∷ 2 ∷ 3 ∷ 14 ∷ 24 ∷ 25 ∷ 26 ∷ []

abbrev known : ℕ → Bool
known n = among n index_numbers

pub record Bounds (most : ℕ) (a : Answer) : Type 0 where
  pub number : T (known a.number)
  pub place : a.place ≤ most

-- ---- building

index-zero : (list : List ℕ) → eqb (wholeness list).number 0 ≡ true → index_answer list ≡ answer 0 (entry_count list)
unfolding index_answer
index-zero list t = rw t

index-some : (list : List ℕ) → eqb (wholeness list).number 0 ≡ false → index_answer list ≡ answer (wholeness list).number (wholeness list).place
unfolding index_answer
index-some list f = rw f

entries-few : (list : List ℕ) → length list ≤ 32768 → entry_count list ≤ 4096
entries-few list h =
    omega (arith, count-built list, count-joined (commands_of list) (parsed list).alone, words_inside list)

index-bounds : (list : List ℕ) → Bounds 4096 (index_answer list)
index-bounds list =
    by-test (eqb (wholeness list).number 0)
    (λ t.
    let e = index-zero list t in
    let w = index-facts list (ap (λ (a : Answer). a.number) e) in
    subst (Bounds 4096) (sym e) (record { number = tt; place = entries-few list w.short }))
    (λ f.
    subst (Bounds 4096) (sym (index-some list f))
    (record { number = outcome-gives known no_refusals (λ s c. tt) tt tt tt tt 4096 list; place = place-most 4096 no_refusals list }))

room-bounds : (most room : ℕ) (a : Answer) → Bounds most a → Bounds most (room_answer room a)
unfolding room_answer
room-bounds most room a b =
    by-test (eqb a.number 0)
    (λ t.
    by-test (ltb room a.place) (λ l. rw (t, l) (record { number = tt; place = b.place })) (λ g. rw (t, g) b))
    (λ f. rw f b)

pub build-bounds : (list old : List ℕ) → Bounds 4096 (build_answer list old)
build-bounds list old = room-bounds 4096 (length old / 2) (index_answer list) (index-bounds list)

-- ---- asking

pub record AskBounds (most : ℕ) (a : Asked) : Type 0 where
  pub number : T (known a.number)
  pub place : a.place ≤ most
  pub hazards : a.hazards < 16
  pub read : a.read ≤ 64

module _ (most : ℕ) where
  refused-bounds : (number place : ℕ) → T (known number) → place ≤ most → AskBounds most (refused_at number place)
  refused-bounds number place k h = record { number = k; place = h; hazards = omega arith; read = omega arith }

  read-bounds :
      (left place read at m : ℕ) (cs : List (List ℕ)) (rest : List ℕ) → place ≤ most → m < 16 → read + left ≤ 64 →
      AskBounds most (read_from left place read at m cs rest)
  unfolding read_from
  read-bounds zero place read at m cs rest h low few = refused-bounds 24 place tt h
  read-bounds (suc left) place read at m [] rest h low few =
      by-test (is_some rest && leb at place) (λ t. rw t (refused-bounds 3 place tt h)) (λ f. rw f (refused-bounds 24 place tt h))
  read-bounds (suc left) place read at m (c ∷ cs) rest h low few =
      let n : ℕ = first_number c in
      by-test (ltb place at) (λ t. rw t (refused-bounds 24 place tt h))
      (λ f.
      by-test (eqb at place) (λ t. rw (f, t) (record { number = tt; place = h; hazards = low; read = omega arith }))
      (λ g. rw (f, g) (read-bounds left place (read + 1) (at + words_of n) (next_of m n) cs rest h (next_small m n) (omega arith))))

  entry-bounds : (list es : List ℕ) (place i : ℕ) → place ≤ most → AskBounds most (ask_entry list es place i)
  unfolding ask_entry
  entry-bounds list es place zero h = refused-bounds 26 place tt h
  entry-bounds list es place (suc i) h =
      let at : ℕ = get_or es (2 * i) 0 in
      let m : ℕ = get_or es (2 * i + 1) 0 in
      by-test (ltb m 16)
      (λ t. rw t (read-bounds 64 place 0 at m (commands_of (drop (8 * at) list)) (rest_of (drop (8 * at) list)) h (ltb-true _ _ t) (omega arith)))
      (λ f. rw f (refused-bounds 26 place tt h))

  module _ (words : 4096 ≤ most) (list es : List ℕ) (place : ℕ) (h : place ≤ most) where
    pub ask-bounds : AskBounds most (ask_of list es place)
    unfolding ask_of
    ask-bounds =
        by-test (ltb 32768 (length list)) (λ t. rw t (refused-bounds 1 4096 tt words))
        (λ f.
        let short : length list ≤ 32768 = ltb-false _ _ f in
        by-test (eqb (length list % 8) 0) (λ t. rw (f, t) (entry-bounds list es place (last_before place es (length es / 2)) h))
        (λ g. rw (f, g) (refused-bounds 2 (length list / 8) tt (omega arith))))

    -- ---- replacing

    abbrev within : Answer → Bool
    within a = known a.number && leb a.place most

    is_within : (a : Answer) → T (known a.number) → a.place ≤ most → T (within a)
    is_within a k l = both_of (known a.number) (leb a.place most) k (subst T (sym (le-leb _ _ l)) tt)

    pub replace-bounds : (new : List ℕ) → Bounds most (replace_answer list es place new)
    unfolding replace_answer
    replace-bounds new =
        let b = build-bounds list es in
        let a = ask-bounds in
        let asked : Asked = ask_of list es place in
        let gs =
        ground (build_answer list es) (not (eqb (build_answer list es).number 0))
        ∷ ground (answer asked.number asked.place) (not (eqb asked.number 0))
        ∷ ground (answer 24 place) (not (starts_at place 0 (commands_of list)))
        ∷ ground (answer 3 place) (eqb (whole_words new) 0)
        ∷ ground (answer 25 place) (not (eqb (whole_words new) (words_of (number_in (word_at list place)))))
        ∷ [] in
        let all =
        both_of (within (build_answer list es)) _ (is_within (build_answer list es) b.number (omega (arith, b.place, words)))
        (both_of (within (answer asked.number asked.place)) _ (is_within (answer asked.number asked.place) a.number a.place)
        (both_of (within (answer 24 place)) _ (is_within (answer 24 place) tt h)
        (both_of (within (answer 3 place)) _ (is_within (answer 3 place) tt h)
        (both_of (within (answer 25 place)) true (is_within (answer 25 place) tt h) tt)))) in
        let r = both (known (first_of gs (answer 0 place)).number) _ (first_gives within gs (answer 0 place) all (is_within (answer 0 place) tt h)) in
        record { number = r.0; place = leb-true _ _ (true_of _ r.1) }
