-- Laws of the portions: every cutting gives the same, and what bytes do is the judgement of their commands. Assumes nothing.
use Rattle.std.proofs.Common.{◌≡◌, refl, sym, ◌∙◌, ap, false, cond, List, [], ◌∷◌, ◌++◌, append_assoc, append-nil, ℕ, zero, suc, ◌+◌, ◌*◌, ◌-◌, ◌/◌, ◌%◌, ◌≤◌, ◌<◌, arith, lt-ltb, le-ltb, eq-eqb, ne_eqb, eqb-true, ltb-true, ltb-false, eqb, ltb, length, length-append}
use borrow.Author.Tests.{eqb-false}
use Rattle.rdp_words.specs.Words.{number_in}
use Rattle.rdp_words.specs.Kinds.{words_of}
use Rattle.rdp_words.specs.Lengths.{first_number, whole_words}
use Rattle.rdp_words.proofs.Tests.{by-test}
use Rattle.rdp_words.proofs.WordLaws.{word-front}
use Rattle.rdp_words.proofs.PlaceLaws.{is_whole, words-there, words-cut}
use Rattle.rdp_check.specs.Commands.{commands_of, rest_of, words_in, joined}
use Rattle.rdp_check.specs.Check.{State, start, check_refusals, refusal_at, Judgement, judge, outcome_within, outcome_of}
use Rattle.rdp_state.specs.Resume.{state_in, idle, standing_after, settle_in, judge_in, Resumed}
use Rattle.rdp_state.specs.declared.Standing.{Standing}
use Rattle.rdp_check.proofs.ListLaws.{commands-cut, rest-cut}
use Rattle.rdp_check.proofs.JoinLaws.{Alone, command-some, commands-front, rest-front, parsed, length-split}
use Rattle.rdp_stream.specs.Portions.{Feeding, fresh, settled, completed, after_byte, fed_bytes, fed_portions, closing_grounds, closed, answer_of}
use Rattle.rdp_check.proofs.AppendLaws.{ending, judge-ending}
use Rattle.rdp_state.proofs.StandingLaws.{idle-start, outcome_in, judged-state, accepted-in}

suc-eqb : (g : ℕ) → eqb (suc g) 0 ≡ false
suc-eqb g = ne_eqb (suc g) 0 (λ z. omega arith)

-- ---- every cutting

pub fed-joined : (f : Feeding) (xs ys : List ℕ) → fed_bytes f (xs ++ ys) ≡ fed_bytes (fed_bytes f xs) ys
fed-joined f [] ys = refl
fed-joined f (x ∷ xs) ys = fed-joined (after_byte f x) xs ys

pub fed-portions : (f : Feeding) (ps : List (List ℕ)) → fed_portions f ps ≡ fed_bytes f (joined ps)
fed-portions f [] = refl
fed-portions f (p ∷ ps) = fed-portions (fed_bytes f p) ps ∙ sym (fed-joined f p (joined ps))

-- a remembered refusal stays
pub fed-refused : (f : Feeding) (bs : List ℕ) → (f.number ≡ 0 → ⊥) → fed_bytes f bs ≡ f
unfolding after_byte
fed-refused f [] ne = refl
fed-refused f (b ∷ bs) ne = rw (ne_eqb _ _ ne) (fed-refused f bs ne)

-- ---- a command grows by bytes

-- bytes that become a command by one byte more are that command and nothing else
module _ (h : List ℕ) (b : ℕ) (cut : whole_words h ≡ 0) (there : whole_words (h ++ b ∷ []) ≡ 0 → ⊥) where
  abbrev whole : List ℕ
  whole = h ++ b ∷ []

  long : length whole ≡ length h + 1
  long = length-append h (b ∷ [])

  -- a whole word of h is the first of both
  of_word : 8 ≤ length h → length whole ≡ 8 * words_of (first_number whole)
  of_word l =
      let same : first_number whole ≡ first_number h = ap number_in (word-front h (b ∷ []) 0 (omega arith)) in
      let w = is_whole whole there in
      let e : words_of (first_number whole) ≡ words_of (first_number h) = ap words_of same in
      by-test (ltb (length h / 8) (words_of (first_number h)))
      (λ t. let k : length h / 8 < words_of (first_number h) = ltb-true _ _ t in omega (arith, w.words, w.inside, long))
      (λ f.
      let k : words_of (first_number h) ≤ length h / 8 = ltb-false _ _ f in
      absurd (omega (arith, words-there h k, cut, command-some h)))

  of-bytes : length h < 8 → length whole ≡ 8 * words_of (first_number whole)
  of-bytes l = let w = is_whole whole there in omega (arith, w.words, w.inside, w.some, long)

  pub grown-alone : Alone whole
  grown-alone = by-test (ltb (length h) 8) (λ t. of-bytes (ltb-true _ _ t)) (λ f. of_word (ltb-false _ _ f))

-- ---- bytes without a remembered refusal

-- so many words of commands are accepted, and bytes that are no command are held
abbrev pub holding_of : Standing → ℕ → ℕ → List ℕ → Feeding
holding_of s at p h = record { standing = s; held = h; taken = 8 * at + length h; number = 0; place = p }

-- after bytes that begin at a command's first
abbrev pub resumed : ℕ → Resumed → ℕ → List ℕ → Feeding
resumed p o taken rest =
    cond (eqb o.number 0) (record { standing = o.standing; held = rest; taken = taken; number = 0; place = p })
    (record { standing = o.standing; held = []; taken = 8 * o.place; number = o.number; place = o.place })

abbrev pub judged_from : Standing → ℕ → List ℕ → Resumed
judged_from s at xs = judge_in s at (commands_of xs)

abbrev pub onward : Standing → ℕ → ℕ → List ℕ → Feeding
onward s at p xs = resumed p (judged_from s at xs) (8 * at + length xs) (rest_of xs)

module _ (s : Standing) (at p : ℕ) (h : List ℕ) (b : ℕ) (room : 8 * at + length h < 32768) where
  long_after : 8 * at + length h + 1 ≡ 8 * at + length (h ++ b ∷ [])
  long_after = omega (arith, length-append h (b ∷ []))

  byte : after_byte (holding_of s at p h) b ≡ completed (holding_of s at p (h ++ b ∷ []))
  unfolding after_byte
  byte = rw (lt-ltb _ _ room) (ap (λ (t : ℕ). completed (record { standing = s; held = h ++ b ∷ []; taken = t; number = 0; place = p })) long_after)

  pub byte-held : whole_words (h ++ b ∷ []) ≡ 0 → after_byte (holding_of s at p h) b ≡ holding_of s at p (h ++ b ∷ [])
  byte-held cut = byte ∙ rw (eq-eqb _ _ cut)

  pub byte-whole : (whole_words (h ++ b ∷ []) ≡ 0 → ⊥) → after_byte (holding_of s at p h) b ≡ settled (refusal_at check_refusals (state_in s) (h ++ b ∷ [])) (holding_of s at p (h ++ b ∷ []))
  byte-whole there = byte ∙ rw (ne_eqb _ _ there)

-- a command is accepted or refused, and bytes follow it
module _ (s : Standing) (at p : ℕ) (c : List ℕ) (alone : Alone c) (bs : List ℕ) where
  abbrev w : ℕ
  w = words_of (first_number c)

  long-on : 8 * (at + w) + length bs ≡ 8 * at + length (c ++ bs)
  long-on = omega (arith, length-append c bs, alone)

  back : 8 * at + length c - length c ≡ 8 * at
  back = omega arith

  words_back : (8 * at + length c - length c) / 8 ≡ at
  words_back = omega arith

  judged-on : judged_from s at (c ++ bs) ≡ settle_in (refusal_at check_refusals (state_in s) c) at s (judged_from (standing_after s c) (at + w) bs)
  unfolding judge_in
  judged-on = rw (commands-front c bs alone)

  pub settled_on :
      (g : ℕ) → (fed_bytes (holding_of (standing_after s c) (at + w) p []) bs ≡ onward (standing_after s c) (at + w) p bs) →
      fed_bytes (settled g (holding_of s at p c)) bs ≡
      resumed p (settle_in g at s (judged_from (standing_after s c) (at + w) bs)) (8 * at + length (c ++ bs)) (rest_of (c ++ bs))
  settled_on zero on =
      let e : 8 * at + length c ≡ 8 * (at + w) + 0 = omega (arith, alone) in
      ap (λ (t : ℕ). fed_bytes (record { standing = standing_after s c; held = []; taken = t; number = 0; place = p }) bs) e ∙
      on ∙
      (λ i. resumed p (judged_from (standing_after s c) (at + w) bs) (long-on i) (sym (rest-front c bs alone) i))
  settled_on (suc g) on =
      rw (suc-eqb g)
      (fed-refused (settled (suc g) (holding_of s at p c)) bs (λ z. omega arith) ∙
      (λ i. record { standing = s; held = []; taken = back i; number = suc g; place = words_back i }))

pub none-whole : whole_words [] ≡ 0
none-whole = words-cut [] (command-some [])

-- what bytes do to a record is the judgement of their commands
pub fed-all :
    (s : Standing) (at p : ℕ) (h bs : List ℕ) → whole_words h ≡ 0 → 8 * at + length (h ++ bs) ≤ 32768 →
    fed_bytes (holding_of s at p h) bs ≡ onward s at p (h ++ bs)
unfolding judge_in
fed-all s at p h [] cut room = rw (append-nil, commands-cut h cut, rest-cut h cut)
fed-all s at p h (b ∷ bs) cut room =
    let assoc : (h ++ b ∷ []) ++ bs ≡ h ++ b ∷ bs = append_assoc h (b ∷ []) bs in
    let long : length (h ++ b ∷ bs) ≡ length h + suc (length bs) = length-append h (b ∷ bs) in
    let space : 8 * at + length h < 32768 = omega arith in
    let room' : 8 * at + length ((h ++ b ∷ []) ++ bs) ≤ 32768 = rw assoc room in
    by-test (eqb (whole_words (h ++ b ∷ [])) 0)
    (λ t.
    let cut' = eqb-true _ _ t in
    ap (λ (f : Feeding). fed_bytes f bs) (byte-held s at p h b space cut') ∙
    fed-all s at p (h ++ b ∷ []) bs cut' room' ∙
    ap (onward s at p) assoc)
    (λ f.
    let there = eqb-false _ _ f in
    let c = h ++ b ∷ [] in
    let alone : Alone c = grown-alone h b cut there in
    let w = words_of (first_number c) in
    let on = fed-all (standing_after s c) (at + w) p [] bs none-whole (omega (arith, length-append c bs, alone)) in
    ap (λ (x : Feeding). fed_bytes x bs) (byte-whole s at p h b space there) ∙
    settled_on s at p c alone bs (refusal_at check_refusals (state_in s) c) on ∙
    ap (λ (o : Resumed). resumed p o (8 * at + length (c ++ bs)) (rest_of (c ++ bs))) (sym (judged-on s at p c alone bs)) ∙
    ap (onward s at p) assoc)

-- ---- a list's end

-- a feeding at its end answers as an outcome does, and has its state
pub record EndsAs (f : Feeding) (o : Judgement) : Type 0 where
  pub number : (answer_of f).number ≡ o.number
  pub place : (answer_of f).place ≡ o.place
  pub state : state_in f.standing ≡ o.state

module _ (q : Resumed) (t : ℕ) (rest : List ℕ) (words : t % 8 ≡ 0) (long : q.number ≡ 0 → t ≡ 8 * q.place + length rest) where
  abbrev end : Feeding
  end = closed (resumed 0 q t rest)

  ends_held : (rest' : List ℕ) → rest ≡ rest' → q.number ≡ 0 → EndsAs end (ending (outcome_in q) rest)
  unfolding closing_grounds
  ends_held [] e z =
      let l : t ≡ 8 * q.place + length rest = long z in
      let p : (t - 0) / 8 ≡ q.place = omega (arith, ap length e) in
      rw (e, eq-eqb _ _ z, eq-eqb _ _ words) (record { number = refl; place = p; state = refl })
  ends_held (b ∷ bs) e z =
      let l : t ≡ 8 * q.place + length rest = long z in
      let p : (t - suc (length bs)) / 8 ≡ q.place = omega (arith, ap length e) in
      rw (e, eq-eqb _ _ z, eq-eqb _ _ words, suc-eqb (length bs)) (record { number = refl; place = p; state = refl })

  ends-refused : (q.number ≡ 0 → ⊥) → EndsAs end (ending (outcome_in q) rest)
  unfolding closing_grounds
  ends-refused ne = rw (ne_eqb _ _ ne, ne_eqb _ _ ne) (record { number = refl; place = rw (ne_eqb q.number 0 ne); state = refl })

  ends : EndsAs end (ending (outcome_in q) rest)
  ends = by-test (eqb q.number 0) (λ z. ends_held rest refl (eqb-true _ _ z)) (λ f. ends-refused (eqb-false _ _ f))

-- bytes of a list: its commands and the rest
list-long : (b : Standing) (xs : List ℕ) → (judged_from b 0 xs).number ≡ 0 → length xs ≡ 8 * (judged_from b 0 xs).place + length (rest_of xs)
list-long b xs z =
    let at : (judged_from b 0 xs).place ≡ 0 + words_in (commands_of xs) = accepted-in b 0 (commands_of xs) z in
    omega (arith, length-split xs)

-- ---- a list from a fresh record

pub fed-list : (list : List ℕ) → length list ≤ 32768 → fed_bytes fresh list ≡ resumed 0 (judged_from idle 0 list) (length list) (rest_of list)
fed-list list few =
    fed-all idle 0 0 [] list none-whole (omega arith) ∙
    ap (λ (t : ℕ). resumed 0 (judged_from idle 0 list) t (rest_of list)) (omega arith)

pub judged-list : (list : List ℕ) → judge check_refusals start 0 (commands_of list) [] ≡ outcome_in (judged_from idle 0 list)
judged-list list =
    ap (λ (s : State). judge check_refusals s 0 (commands_of list) []) (sym idle-start) ∙
    sym (judged-state idle refl 0 (commands_of list) (parsed list).alone)

-- every cutting of a list of whole words and at most 32,768 bytes ends in the check's number, place and state
module _ (list : List ℕ) (words : length list % 8 ≡ 0) (few : length list ≤ 32768) where
  list-outcome : outcome_of list ≡ ending (outcome_in (judged_from idle 0 list)) (rest_of list)
  unfolding outcome_within
  list-outcome =
      rw (le-ltb 32768 (length list) few, eq-eqb _ _ words)
      (judge-ending check_refusals start 0 (commands_of list) (rest_of list) ∙ ap (λ (o : Judgement). ending o (rest_of list)) (judged-list list))

  pub list-ends : EndsAs (closed (fed_bytes fresh list)) (outcome_of list)
  list-ends = rw (fed-list list few, list-outcome) (ends (judged_from idle 0 list) (length list) (rest_of list) words (list-long idle list))

pub portions-end : (ps : List (List ℕ)) → length (joined ps) % 8 ≡ 0 → length (joined ps) ≤ 32768 → EndsAs (closed (fed_portions fresh ps)) (outcome_of (joined ps))
portions-end ps words few = rw (fed-portions fresh ps) (list-ends (joined ps) words few)
