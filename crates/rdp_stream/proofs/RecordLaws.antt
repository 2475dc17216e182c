-- A record and what it stands for. Assumes nothing.
use Rattle.std.proofs.Common.{◌≡◌, refl, sym, ◌∙◌, ap, true, false, not, List, [], ◌∷◌, ◌++◌, ℕ, ◌+◌, ◌*◌, ◌-◌, ◌/◌, ◌%◌, min, ◌≤◌, ◌<◌, arith, eq-eqb, ne_eqb, le-ltb, eqb, length, take, drop, replicate, length-append, length-drop, take-append-drop, length-take-le, take_all, eqb-true}
use borrow.Author.Tests.{eqb-false}
use Rattle.rdp_words.specs.Lengths.{whole_words}
use Rattle.rdp_words.proofs.Tests.{by-test}
use Rattle.rdp_check.specs.Commands.{rest_of}
use Rattle.rdp_state.specs.declared.Standing.{Standing}
use Rattle.rdp_state.specs.Resume.{Resumed}
use Rattle.rdp_stream.specs.declared.Stream.{Stream}
use Rattle.rdp_words.specs.Grounds.{Answer}
use Rattle.rdp_command.specs.Decode.{answer}
use Rattle.rdp_stream.specs.Portions.{Feeding, accepted, remembering, after_byte, fed_bytes, closing_grounds, closed, answer_of}
use Rattle.rdp_stream.specs.Records.{Fed, is_damaged, feeding_of, ended_as, kept_in, stream_of, answered, fed_of, closed_of}
use Rattle.rdp_stream.specs.Steps.{open_of, Open}
use Rattle.rdp_stream.proofs.PortionLaws.{resumed, judged_from, fed-joined, fed-refused}
use Rattle.rdp_stream.proofs.HeldLaws.{zeros, Sound, sound}
use Rattle.rdp_stream.proofs.FeedLaws.{from-held}

-- ---- a record that is not damaged

ended_same : (e : ℕ) → ended_as e (not (eqb e 0)) ≡ e
ended_same e = by-test (eqb e 0) (λ t. rw t (sym (eqb-true e 0 t))) (λ f. rw (f, f))

module _ (r : Stream) (undamaged : is_damaged r ≡ false) (long : length r.held ≡ 176) where
  abbrev n : ℕ
  n = r.held_count

  pub fits : Sound r.held n r.taken r.number r.waited
  fits = sound r.held n r.taken r.number r.waited undamaged

  pub count-is : length (take n r.held) ≡ n
  count-is = length-take-le n r.held (omega (arith, fits.few, long))

  past-zero : drop n r.held ≡ replicate (176 - n) 0
  past-zero = zeros (drop n r.held) fits.clear ∙ ap (λ (m : ℕ). replicate m 0) (length-drop n r.held ∙ ap (λ (m : ℕ). m - n) long)

  pub is_open : Open r.held n r.taken
  is_open =
      record {
        few = fits.few;
        long = long;
        past = past-zero;
        cut = fits.cut;
        inside = fits.inside;
        whole = fits.whole;
        most = fits.most;
      }

  held-own : take n r.held ++ replicate (176 - length (take n r.held)) 0 ≡ r.held
  held-own =
      ap (λ (m : ℕ). take n r.held ++ replicate (176 - m) 0) count-is ∙
      ap (λ (xs : List ℕ). take n r.held ++ xs) (sym past-zero) ∙
      take-append-drop n r.held

  -- it stands for itself
  stream-back : stream_of (kept_in r) (feeding_of r) ≡ r
  unfolding stream_of
  stream-back =
      λ i.
      record {
        hazards = r.hazards;
        ended = ended_same r.ended i;
        words = r.words;
        held = held-own i;
        held_count = count-is i;
        taken = r.taken;
        number = r.number;
        place = r.place;
        spare = r.spare;
        waited = r.waited;
      }

  pub answered-is : (f : Feeding) → answered r f ≡ record { after = stream_of (kept_in r) f; answer = answer_of f }
  unfolding answered
  answered-is f = rw undamaged

  -- a remembered refusal is repeated
  module _ (ne : r.number ≡ 0 → ⊥) where
    repeats : ◌≡◌ {A = Fed} (record { after = r; answer = answer r.number r.place }) (answered r (feeding_of r))
    repeats =
        let a : r.place ≡ (answer_of (feeding_of r)).place = rw (ne_eqb _ _ ne) in
        (λ i. record { after = sym stream-back i; answer = record { number = r.number; place = a i } }) ∙ sym (answered-is (feeding_of r))

    pub fed-repeats : (bs : List ℕ) → record { after = r; answer = answer r.number r.place } ≡ fed_of r bs
    fed-repeats bs = repeats ∙ ap (answered r) (sym (fed-refused (feeding_of r) bs ne))

    pub closed-repeats : record { after = r; answer = answer r.number r.place } ≡ closed_of r
    unfolding closing_grounds
    closed-repeats = repeats ∙ ap (answered r) (rw (ne_eqb _ _ ne))

-- by the record and the answer that are told
pub answered-with :
    (r : Stream) → is_damaged r ≡ false → (f g : Feeding) → f ≡ g → (after : Stream) → after ≡ stream_of (kept_in r) f → (a : Answer) → a ≡ answer_of f →
    ◌≡◌ {A = Fed} (record { after = after; answer = a }) (answered r g)
unfolding answered
answered-with r e f g is after is-after a is-a =
    (λ i. record { after = (is-after ∙ ap (stream_of (kept_in r)) is) i; answer = (is-a ∙ ap answer_of is) i }) ∙ rw e

pub answered-damaged : (r : Stream) (f : Feeding) → is_damaged r ≡ true → answered r f ≡ record { after = r; answer = answer 28 0 }
unfolding answered
answered-damaged r f e = rw e

-- ---- what is known, as the record has it

module _ (held : List ℕ) (count taken : ℕ) (k : Open held count taken) where
  pub count-held : length (take count held) ≡ count
  count-held = length-take-le count held (omega (arith, k.few, k.long))

  pub held-back : held ≡ take count held ++ replicate (176 - length (take count held)) 0
  held-back =
      sym (take-append-drop count held) ∙
      ap (λ (xs : List ℕ). take count held ++ xs) (k.past ∙ ap (λ (m : ℕ). replicate (176 - m) 0) (sym count-held))

-- ---- over 32,768 bytes

module _ (s : Standing) (taken p : ℕ) (h part : List ℕ) (cut : whole_words h ≡ 0) (inside : length h ≤ taken) (even : (taken - length h) % 8 ≡ 0) (room : taken + length part ≤ 32768) where
  abbrev o : Resumed
  o = judged_from s ((taken - length h) / 8) (h ++ part)

  abbrev t : ℕ
  t = 8 * ((taken - length h) / 8) + length (h ++ part)

  taken-resumed : (resumed p o t (rest_of (h ++ part))).number ≡ 0 → (resumed p o t (rest_of (h ++ part))).taken ≡ t
  taken-resumed =
      by-test (eqb o.number 0) (λ z. rw z (λ e. refl)) (λ f. rw f (λ e. absurd (eqb-false _ _ f e)))

  pub taken-after : (fed_bytes (open_of s h taken p) part).number ≡ 0 → (fed_bytes (open_of s h taken p) part).taken ≡ taken + length part
  taken-after z =
      let e = from-held s taken p h part cut inside even room in
      ap (λ (x : Feeding). x.taken) e ∙ taken-resumed (sym (ap (λ (x : Feeding). x.number) e) ∙ z) ∙ (omega (arith, length-append h part))

module _ (f : Feeding) (none : f.number ≡ 0) (full : f.taken ≡ 32768) where
  pub over : (bs : List ℕ) → 0 < length bs → fed_bytes f bs ≡ remembering (answer 1 4096) f
  unfolding after_byte
  over [] h = absurd (omega arith)
  over (b ∷ bs) h =
      let e : after_byte f b ≡ remembering (answer 1 4096) f = rw (eq-eqb _ _ none, le-ltb f.taken 32768 (omega (arith, full))) in
      ap (λ (x : Feeding). fed_bytes x bs) e ∙ fed-refused (remembering (answer 1 4096) f) bs (λ z. omega arith)

-- ---- a portion, where no refusal is remembered

module _ (s : Standing) (taken p count : ℕ) (held : List ℕ) (k : Open held count taken) (portion : List ℕ) (n : ℕ) (is-n : n ≡ min (length portion) (32768 - taken)) where
  abbrev here : Feeding
  here = open_of s (take count held) taken p

  abbrev part : List ℕ
  part = take n portion

  abbrev some : Feeding
  some = fed_bytes here part

  pub part-long : length part ≡ n
  part-long = length-take-le n portion (omega arith)

  pub part-room : taken + length part ≤ 32768
  part-room = omega (arith, part-long, k.most)

  pub part-all : n ≡ length portion → fed_bytes here part ≡ fed_bytes here portion
  part-all e = ap (fed_bytes here) (take_all n portion (omega arith))

  split : fed_bytes here portion ≡ fed_bytes some (drop n portion)
  split = ap (fed_bytes here) (sym (take-append-drop n portion)) ∙ fed-joined here part (drop n portion)

  pub part-refused : (some.number ≡ 0 → ⊥) → some ≡ fed_bytes here portion
  part-refused ne = sym (split ∙ fed-refused some (drop n portion) ne)

  pub part-full : some.number ≡ 0 → (n ≡ length portion → ⊥) → remembering (answer 1 4096) some ≡ fed_bytes here portion
  part-full z more =
      let long : length (take count held) ≡ count = count-held held count taken k in
      let left : 0 < length (drop n portion) = omega (arith, length-drop n portion) in
      let full : some.taken ≡ 32768 =
      taken-after s taken p (take count held) part k.cut (rw long k.inside) (rw long k.whole) part-room z ∙ (omega (arith, part-long, k.most)) in
      sym (split ∙ over some z full (drop n portion) left)

-- ---- the closing

module _ (f : Feeding) where
  pub closed-refused : (f.number ≡ 0 → ⊥) → f ≡ closed f
  unfolding closing_grounds
  closed-refused ne = rw (ne_eqb _ _ ne)

  module _ (none : f.number ≡ 0) where
    pub closed-odd : (f.taken % 8 ≡ 0 → ⊥) → remembering (answer 2 (f.taken / 8)) f ≡ closed f
    unfolding closing_grounds
    closed-odd odd = rw (eq-eqb _ _ none, ne_eqb _ _ odd)

    module _ (even : f.taken % 8 ≡ 0) where
      pub closed-cut : (length f.held ≡ 0 → ⊥) → remembering (answer 3 (accepted f)) f ≡ closed f
      unfolding closing_grounds
      closed-cut some = rw (eq-eqb _ _ none, eq-eqb _ _ even, ne_eqb _ _ some)

      pub closed-whole : length f.held ≡ 0 → f ≡ closed f
      unfolding closing_grounds
      closed-whole z = rw (eq-eqb _ _ none, eq-eqb _ _ even, eq-eqb _ _ z)
