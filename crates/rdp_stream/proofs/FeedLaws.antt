-- What the code does with bytes is what the definition does with them, one after the other. Assumes nothing.
use Rattle.std.proofs.Common.{◌≡◌, refl, sym, ◌∙◌, ap, Bool, true, false, not, List, [], ◌∷◌, ◌++◌, append_assoc, append-nil, ℕ, ◌+◌, ◌*◌, ◌-◌, ◌/◌, ◌%◌, min, ◌≤◌, ◌<◌, arith, eq-eqb, ne_eqb, eqb-true, ltb-true, ltb-false, eqb, ltb, length, take, drop, replicate, length-append, take-append-drop, drop_at, take-take, drop-drop, take_all, length-take-le}
use borrow.Author.Tests.{eqb-false}
use Rattle.std.proofs.Math.Seq.{paste, take-append-add, length-paste, take-paste}
use Rattle.rdp_words.specs.Words.{word_at, number_in}
use Rattle.rdp_words.specs.Kinds.{words_of}
use Rattle.rdp_words.specs.Lengths.{first_number, whole_words}
use Rattle.rdp_words.proofs.Tests.{by-test}
use Rattle.rdp_words.proofs.KindLaws.{words-most}
use Rattle.rdp_words.proofs.PlaceLaws.{number_small, words-there, words-cut, IsWhole, is_whole}
use Rattle.rdp_words.proofs.WordLaws.{word-front}
use Rattle.rdp_check.specs.Commands.{commands_of, rest_of, words_in, joined}
use Rattle.rdp_state.specs.Resume.{judge_in, resumed_of, Resumed}
use Rattle.rdp_state.specs.declared.Standing.{Standing}
use Rattle.rdp_check.proofs.ListLaws.{head, commands-cut, rest-cut}
use Rattle.rdp_check.proofs.JoinLaws.{parsed, length-joined, length-split, rest-joined, rest-most, words_inside, command-some, head-long, head-alone}
use Rattle.rdp_state.proofs.ResumeLaws.{resumed-within}
use Rattle.rdp_state.proofs.StandingLaws.{moved_in, judge-moved, accepted-in, most-in}
use Rattle.rdp_stream.specs.Portions.{Feeding, fed_bytes}
use Rattle.rdp_stream.specs.Records.{ended_as}
use Rattle.rdp_stream.specs.Steps.{open_of, nothing_held, Open, Complete}
use Rattle.rdp_stream.proofs.HeldLaws.{drop-replicate, padded-front, padded-open}
use Rattle.rdp_stream.proofs.PortionLaws.{resumed, judged_from, onward, none-whole, fed-all, fed-joined, fed-refused}

-- bytes that are no whole command are at most 175
pub cut_short : (xs : List ℕ) → whole_words xs ≡ 0 → length xs ≤ 175
cut_short xs cut = omega (arith, rest-most xs, ap length (rest-cut xs cut))

eighth : (taken : ℕ) → taken % 8 ≡ 0 → 8 * (taken / 8) ≡ taken
eighth taken e = omega arith

-- ---- a part that begins at a command's first byte

module _ (b : Standing) (taken p : ℕ) (part : List ℕ) (even : taken % 8 ≡ 0) (room : taken + length part ≤ 32768) where
  abbrev at : ℕ
  at = taken / 8

  abbrev o : Resumed
  o = judged_from b 0 part

  abbrev fed : Feeding
  fed = fed_bytes (open_of b [] taken p) part

  fed-is : fed ≡ resumed p (moved_in at o) (taken + length part) (rest_of part)
  fed-is =
      let e : taken ≡ 8 * at + 0 = omega arith in
      let t : 8 * at + length part ≡ taken + length part = omega arith in
      let z : at ≡ at + 0 = omega arith in
      let j : judged_from b at part ≡ moved_in at o = ap (λ (x : ℕ). judged_from b x part) z ∙ judge-moved b at 0 (commands_of part) in
      ap (λ (x : ℕ). fed_bytes (open_of b [] x p) part) e ∙
      fed-all b at p [] part none-whole (omega arith) ∙
      (λ i. resumed p (j i) (t i) (rest_of part))

  refused-is :
      (o.number ≡ 0 → ⊥) →
      resumed p (moved_in at o) (taken + length part) (rest_of part) ≡
      record { standing = o.standing; held = []; taken = 8 * (at + o.place); number = o.number; place = at + o.place }
  refused-is ne = rw (ne_eqb o.number 0 ne)

  accepted-is :
      o.number ≡ 0 →
      resumed p (moved_in at o) (taken + length part) (rest_of part) ≡
      record { standing = o.standing; held = rest_of part; taken = taken + length part; number = 0; place = p }
  accepted-is z = rw (eq-eqb o.number 0 z)

  place_inside : 8 * o.place ≤ length part
  place_inside = omega (arith, most-in b 0 (commands_of part), words_inside part)

  module _ (q : Resumed) (is-r : q ≡ resumed_of b part) where
    is-q : q ≡ o
    is-q = is-r ∙ sym (resumed-within b part (omega arith))

    number_is : q.number ≡ o.number
    number_is = ap (λ (x : Resumed). x.number) is-q

    place_is : q.place ≡ o.place
    place_is = ap (λ (x : Resumed). x.place) is-q

    pub refused-room : taken + 8 * q.place ≤ 32768
    refused-room = rw place_is (omega (arith, place_inside))

    pub refused-fed : (q.number ≡ 0 → ⊥) → nothing_held q.standing (8 * (taken / 8 + q.place)) q.number (taken / 8 + q.place) ≡ fed
    refused-fed ne =
        ap (λ (x : Resumed). nothing_held x.standing (8 * (taken / 8 + x.place)) x.number (taken / 8 + x.place)) is-q ∙
        sym (fed-is ∙ refused-is (λ z. ne (number_is ∙ z)))

    module _ (zero_is : q.number ≡ 0) where
      none : o.number ≡ 0
      none = sym number_is ∙ zero_is

      long : length (joined (commands_of part)) ≡ 8 * o.place
      long =
          let a : o.place ≡ 0 + words_in (commands_of part) = accepted-in b 0 (commands_of part) none in
          omega (arith, length-joined (commands_of part) (parsed part).alone)

      rest-is : drop (8 * o.place) part ≡ rest_of part
      rest-is =
          ap (drop (8 * o.place)) (sym (parsed part).joins) ∙ drop_at (joined (commands_of part)) (rest_of part) (8 * o.place) long

      rest-long : length part ≡ 8 * o.place + length (rest_of part)
      rest-long = omega (arith, length-split part, length-joined (commands_of part) (parsed part).alone, long)

      pub held-inside : 8 * q.place ≤ length part
      held-inside = rw place_is place_inside

      pub held-cut : whole_words (drop (8 * q.place) part) ≡ 0
      held-cut = ap (λ (n : ℕ). whole_words (drop (8 * n) part)) place_is ∙ ap whole_words rest-is ∙ (parsed part).cut

      pub held-fed : open_of q.standing (drop (8 * q.place) part) (taken + 8 * q.place + length (drop (8 * q.place) part)) p ≡ fed
      held-fed =
          let count : taken + 8 * o.place + length (rest_of part) ≡ taken + length part = omega (arith, rest-long) in
          ap (λ (x : Resumed). open_of x.standing (drop (8 * x.place) part) (taken + 8 * x.place + length (drop (8 * x.place) part)) p) is-q ∙
          ap (λ (xs : List ℕ). open_of o.standing xs (taken + 8 * o.place + length xs) p) rest-is ∙
          (λ i. open_of o.standing (rest_of part) (count i) p) ∙
          sym (fed-is ∙ accepted-is none)

-- ---- held bytes

-- bytes after held ones are bytes after none, with the held ones in front
module _ (s : Standing) (taken p : ℕ) (h part : List ℕ) (cut : whole_words h ≡ 0) (inside : length h ≤ taken) (even : (taken - length h) % 8 ≡ 0) (room : taken + length part ≤ 32768) where
  abbrev start : ℕ
  start = taken - length h

  abbrev first : ℕ
  first = start / 8

  total : length (h ++ part) ≡ length h + length part
  total = length-append h part

  pub from-held : fed_bytes (open_of s h taken p) part ≡ onward s first p (h ++ part)
  from-held =
      let e : taken ≡ 8 * first + length h = omega arith in
      ap (λ (x : ℕ). fed_bytes (open_of s h x p) part) e ∙ fed-all s first p h part cut (omega (arith, total))

  pub gathered : fed_bytes (open_of s h taken p) part ≡ fed_bytes (open_of s [] start p) (h ++ part)
  gathered =
      let e : start ≡ 8 * first + 0 = omega arith in
      from-held ∙
      sym (fed-all s first p [] (h ++ part) none-whole (omega (arith, total))) ∙
      ap (λ (x : ℕ). fed_bytes (open_of s [] x p) (h ++ part)) (sym e)

  -- where they are no command still
  pub still-held : whole_words (h ++ part) ≡ 0 → fed_bytes (open_of s h taken p) part ≡ open_of s (h ++ part) (taken + length part) p
  unfolding judge_in
  still-held c =
      let e : 8 * first + length (h ++ part) ≡ taken + length part = omega (arith, total) in
      from-held ∙ rw (commands-cut (h ++ part) c, rest-cut (h ++ part) c, e)

-- a part that is too short for a command
pub short-cut : (part : List ℕ) → length part < 8 → whole_words part ≡ 0
short-cut part short = words-cut part (omega (arith, command-some part))

pub short-fed :
    (b : Standing) (taken p : ℕ) (part : List ℕ) → taken % 8 ≡ 0 → taken + length part ≤ 32768 → length part < 8 →
    open_of b part (taken + length part) p ≡ fed_bytes (open_of b [] taken p) part
short-fed b taken p part even room short =
    sym (still-held b taken p [] part none-whole (omega arith) (omega arith) room (short-cut part short))

pub ended-back : (ended : ℕ) (b : Bool) → not (eqb (ended_as ended b) 0) ≡ b
ended-back ended false = refl
ended-back ended true = by-test (eqb ended 0) (λ t. rw t) (λ f. rw (f, f))

-- ---- held bytes that a part has completed

module _ (b : Standing) (taken p count words : ℕ) (held filled part : List ℕ) (k : Complete held count taken filled words part) where
  abbrev begin : Standing
  begin = b

  abbrev h : List ℕ
  h = take count held

  abbrev used : ℕ
  used = 8 * words - count

  abbrev command : List ℕ
  command = take (8 * words) filled

  abbrev after : List ℕ
  after = drop used part

  abbrev all : Feeding
  all = fed_bytes (open_of begin h taken p) part

  abbrev one : Feeding
  one = fed_bytes (open_of begin [] (taken - count) p) command

  pub command-long : length command ≡ 8 * words
  command-long = length-take-le (8 * words) filled (omega (arith, k.long, k.few))

  pub command-room : taken - count + length command ≤ 32768
  command-room = omega (arith, command-long, k.inside, k.room, k.more, k.within)

  joins : h ++ part ≡ command ++ after
  joins =
      ap (λ (x : List ℕ). h ++ x) (sym (take-append-drop used part)) ∙
      sym (append_assoc h (take used part) after) ∙
      ap (λ (x : List ℕ). x ++ after) (sym k.bytes)

  all-is : all ≡ fed_bytes one after
  all-is =
      let e : taken - length h ≡ taken - count = ap (λ (x : ℕ). taken - x) k.counted in
      gathered begin taken p h part k.cut (rw k.counted k.inside) (rw k.counted k.even) k.room ∙
      (λ i. fed_bytes (open_of begin [] (e i) p) (joins i)) ∙
      fed-joined (open_of begin [] (taken - count) p) command after

  none_left : rest_of command ≡ []
  none_left =
      ap rest_of (sym (append-nil command)) ∙
      rest-joined (command ∷ []) (command-long ∙ k.alone, tt)

  one-is : one.number ≡ 0 → one ≡ open_of one.standing [] (taken - count + 8 * words) p
  one-is z =
      let o = judged_from begin 0 command in
      let is = fed-is b (taken - count) p command k.even command-room in
      by-test (eqb o.number 0)
      (λ t.
      let acc = is ∙ accepted-is b (taken - count) p command k.even command-room (eqb-true _ _ t) in
      acc ∙ (λ i. open_of (sym acc i).standing (none_left i) (taken - count + command-long i) p))
      (λ f.
      let ne = eqb-false _ _ f in
      let ref = is ∙ refused-is b (taken - count) p command k.even command-room ne in
      absurd (ne (sym (ap (λ (x : Feeding). x.number) ref) ∙ z)))

  -- by what the check answers of the command
  module _ (q : Resumed) (is-q : q ≡ resumed_of begin command) where
    pub judged-room : taken - count + 8 * q.place ≤ 32768
    judged-room = refused-room begin (taken - count) p command k.even command-room q is-q

    pub judged-refused :
        (q.number ≡ 0 → ⊥) → nothing_held q.standing (8 * ((taken - count) / 8 + q.place)) q.number ((taken - count) / 8 + q.place) ≡ all
    judged-refused ne =
        let e = refused-fed begin (taken - count) p command k.even command-room q is-q ne in
        e ∙ sym (all-is ∙ fed-refused one after (λ z. ne (ap (λ (f : Feeding). f.number) e ∙ z)))

    pub judged-accepted : q.number ≡ 0 → fed_bytes (open_of q.standing [] (taken - count + 8 * words) p) after ≡ all
    judged-accepted z =
        let e = held-fed begin (taken - count) p command k.even command-room q is-q z in
        (λ i. fed_bytes (open_of (e i).standing [] (taken - count + 8 * words) p) after) ∙
        ap (λ (f : Feeding). fed_bytes f after) (sym (one-is (sym (ap (λ (f : Feeding). f.number) e)))) ∙
        sym all-is

-- ---- a part copied after the held bytes

module _ (b : Standing) (taken p count : ℕ) (held part : List ℕ) (k : Open held count taken) (room : taken + length part ≤ 32768) (n : ℕ) (is-n : n ≡ min (length part) (176 - count)) (filled : List ℕ) (is-filled : filled ≡ paste held count part n) where
  abbrev before : List ℕ
  before = take count held

  abbrev both : List ℕ
  both = before ++ take n part

  pub before-long : length before ≡ count
  before-long = length-take-le count held (omega (arith, k.few, k.long))

  few-copied : n ≤ length part
  few-copied = omega arith

  room-copied : count + n ≤ 176
  room-copied = omega (arith, k.few)

  pub filled-long : length filled ≡ 176
  filled-long = ap length is-filled ∙ length-paste held count part n (omega (arith, room-copied, k.long)) few-copied ∙ k.long

  pub both_is : take (count + n) filled ≡ both
  both_is = ap (take (count + n)) is-filled ∙ take-paste held count part n (omega (arith, k.few, k.long)) few-copied

  both_long : length both ≡ count + n
  both_long = length-append before (take n part) ∙ (λ i. before-long i + length-take-le n part few-copied i)

  module _ (words : ℕ) (is-words : words ≡ whole_words (take (count + n) filled)) where
    words-is : words ≡ whole_words both
    words-is = is-words ∙ ap whole_words both_is

    module _ (zero_is : words ≡ 0) where
      copied : n ≡ length part
      copied =
          let c : length both ≤ 175 = cut_short both (sym words-is ∙ zero_is) in
          omega (arith, both_long, is-n)

      part-is : take n part ≡ part
      part-is = take_all n part (omega (arith, copied))

      cut-both : whole_words (before ++ part) ≡ 0
      cut-both = ap (λ (x : List ℕ). whole_words (before ++ x)) (sym part-is) ∙ sym words-is ∙ zero_is

      total-long : length (before ++ part) ≡ count + length part
      total-long = length-append before part ∙ ap (λ (x : ℕ). x + length part) before-long

      rest-zero : drop (count + n) held ≡ replicate (176 - length (before ++ part)) 0
      rest-zero =
          let e : 176 - count - n ≡ 176 - length (before ++ part) = omega (arith, total-long, copied) in
          sym (drop-drop n count held) ∙ ap (drop n) k.past ∙ drop-replicate n (176 - count) ∙ ap (λ (m : ℕ). replicate m 0) e

      bytes-held : filled ≡ (before ++ part) ++ replicate (176 - length (before ++ part)) 0
      bytes-held = is-filled ∙ (λ i. (before ++ part-is i) ++ rest-zero i)

      pub all-held : take (count + length part) filled ≡ before ++ part
      all-held = padded-front (before ++ part) filled (count + length part) bytes-held (sym total-long)

      pub open-held : Open filled (count + length part) (taken + length part)
      open-held =
          padded-open (before ++ part) filled (count + length part) bytes-held (sym total-long) (taken + length part) (cut_short (before ++ part) cut-both) cut-both
          (omega (arith, total-long, k.inside))
          (let e : taken + length part - length (before ++ part) ≡ taken - count = omega (arith, total-long) in rw e k.whole)
          room

      pub held-after : open_of b (before ++ part) (taken + length part) p ≡ fed_bytes (open_of b before taken p) part
      held-after = sym (still-held b taken p before part k.cut (rw before-long k.inside) (rw before-long k.whole) room cut-both)

    module _ (there : words ≡ 0 → ⊥) where
      there-both : whole_words both ≡ 0 → ⊥
      there-both z = there (words-is ∙ z)

      w : IsWhole both
      w = is_whole both there-both

      -- the command does not end in the held bytes
      more : count ≤ 8 * words
      more =
          by-test (ltb (8 * words) count)
          (λ t.
          let lt : 8 * words < count = ltb-true _ _ t in
          let same : first_number both ≡ first_number before =
          ap number_in (word-front before (take n part) 0 (omega (arith, before-long, words-is, w.some))) in
          let own : words_of (first_number before) ≡ words = ap words_of (sym same) ∙ sym w.words ∙ sym words-is in
          absurd (omega (arith, words-there before (omega (arith, own, before-long)), k.cut, own, words-is, w.some)))
          (λ f. ltb-false _ _ f)

      inside_both : 8 * words ≤ count + n
      inside_both = omega (arith, words-is, w.inside, both_long)

      front : take (8 * words) filled ≡ take (8 * words) both
      front = sym (take-take (8 * words) (count + n) filled inside_both) ∙ ap (take (8 * words)) both_is

      bytes-are : take (8 * words) filled ≡ before ++ take (8 * words - count) part
      bytes-are =
          let e : 8 * words ≡ length before + (8 * words - count) = omega (arith, more, before-long) in
          front ∙
          ap (λ (x : ℕ). take x both) e ∙
          take-append-add before (take n part) (8 * words - count) ∙
          ap (λ (x : List ℕ). before ++ x) (take-take (8 * words - count) n part (omega (arith, inside_both)))

      alone-is : 8 * words ≡ 8 * words_of (first_number (take (8 * words) filled))
      alone-is =
          let f : head both ≡ take (8 * words) filled = ap (λ (x : ℕ). take (8 * x) both) (sym words-is) ∙ sym front in
          ap (λ (x : ℕ). 8 * x) words-is ∙
          sym (head-long both there-both) ∙
          head-alone both there-both ∙
          ap (λ (x : List ℕ). 8 * words_of (first_number x)) f

      pub completes : Complete held count taken filled words part
      completes =
          record {
            counted = before-long;
            inside = k.inside;
            even = k.whole;
            room = room;
            cut = k.cut;
            few = rw words-is (rw w.words (words-most (first_number both) (number_small (word_at both 0))));
            more = more;
            within = omega (arith, inside_both, few-copied);
            long = filled-long;
            bytes = bytes-are;
            alone = alone-is;
          }
