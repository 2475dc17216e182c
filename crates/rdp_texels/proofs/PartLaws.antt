-- Parts of a row: one byte more, two parts that meet. Assumes nothing.
use mathlib.Core.Path.{◌≡◌, refl, sym, ap, ◌∙◌}
use mathlib.Core.Bool.{Bool, true, false, cond, ◌||◌}
use mathlib.Core.List.{List, ◌++◌}
use Prim.Native.Nat.{ℕ, ◌+◌, ◌-◌, ◌≤◌, ◌<◌}
use native.Mathlib.Omega.{arith}
use borrow.Author.Tests.{eqb-true, eqb-false}
use lib.Dec.{eqb}
use lib.ListN.{length, get_or, take, drop, set, length-set, length-append, length-drop}
use lib.Seq.{get_or-set_same, get_or-set_other, length-take-le, take_all}
use borrow.Rule.Slice.PartMut.{put_mid}
use Rattle.std.proofs.Math.Seq.{drop-length}
use Rattle.std.proofs.Common.{append-nil}
use Rattle.rdp_words.specs.Words.{overwrite}
use Rattle.rdp_words.proofs.OverwriteLaws.{overwrite-is}
use Rattle.std.proofs.lemmas.List.{get_or-append_right, get_or_append_left, get_or-take, get_or-drop}
use Rattle.rdp_words.proofs.Tests.{by-test}
use Rattle.rdp_pixels.specs.Overlay.{overlay, within}
use Rattle.rdp_pixels.proofs.OverlayLaws.{within-true, within-is, within-false, within_same, split, within-joined, length-overlay, get_d-overlay-0, overlay-is-0, overlay-none, overlay-overlay, overlay-cong}
use Rattle.rdp_texels.specs.Texels.{in_row}
use Rattle.rdp_texels.specs.Run.{part}
use Rattle.rdp_texels.proofs.TurnLaws.{row-twice}

module _ (turn_to turn_from : Bool) (s d : ℕ) (from to : List ℕ) where
  abbrev picks : ℕ → ℕ → ℕ → Bool
  picks a b i = within (d + a) (d + b) (in_row turn_to i)

  abbrev value : ℕ → ℕ
  value i = get_or from (in_row turn_from (s + (in_row turn_to i - d))) 0

  pub length_part : (a b : ℕ) → length (part turn_to turn_from s d a b from to) ≡ length to
  unfolding part
  length_part a b = length-overlay (picks a b) value 0 to

  pub part_none : (a b : ℕ) → b ≤ a → to ≡ part turn_to turn_from s d a b from to
  unfolding part
  part_none a b h =
      overlay-none (picks a b) value 0 to (λ i _. within-false (d + a) (d + b) (in_row turn_to (0 + i)) (λ x y. omega arith))

  -- two parts, the second where the first ends
  pub part-joined : (a b c : ℕ) → a ≤ b → b ≤ c
      → part turn_to turn_from s d b c from (part turn_to turn_from s d a b from to) ≡ part turn_to turn_from s d a c from to
  unfolding part
  part-joined a b c h k =
      overlay-overlay (picks a b) (picks b c) value 0 to
      ∙ overlay-cong (λ i. picks a b i || picks b c i) (picks a c) value 0 to
      (λ i _. within-joined (d + a) (d + b) (d + c) (in_row turn_to (0 + i)) (omega arith) (omega arith))

  -- one byte more
  module _ (a k : ℕ) (after : a ≤ k) (inside : in_row turn_to (d + k) < length to) where
    abbrev place : ℕ
    place = in_row turn_to (d + k)

    abbrev byte : ℕ
    byte = get_or from (in_row turn_from (s + k)) 0

    written : List ℕ
    written = set (overlay (picks a k) value 0 to) place byte

    same : (j : ℕ) → j ≡ place → get_or written j 0 ≡ cond (picks a (k + 1) j) (value j) (get_or to j 0)
    unfolding written
    same j e =
        let at : in_row turn_to j ≡ d + k = ap (in_row turn_to) e ∙ row-twice turn_to (d + k) in
        let back : d + k - d ≡ k = omega arith in
        rw (e) (
        get_or-set_same (overlay (picks a k) value 0 to) place byte 0 (rw length-overlay inside)
        ∙ rw (row-twice turn_to (d + k), back, within-true (d + a) (d + (k + 1)) (d + k) (omega arith) (omega arith)))

    other : (j : ℕ) → (j ≡ place → ⊥) → j < length to → get_or written j 0 ≡ cond (picks a (k + 1) j) (value j) (get_or to j 0)
    unfolding written
    other j ne l =
        let apart : in_row turn_to j ≡ d + k → ⊥ = λ e. ne (sym (row-twice turn_to j) ∙ ap (in_row turn_to) e) in
        get_or-set_other (overlay (picks a k) value 0 to) place j byte 0 ne
        ∙ get_d-overlay-0 (picks a k) value to j l
        ∙ ap (λ (b : Bool). cond b (value j) (get_or to j 0))
        (within_same (d + a) (d + k) (d + a) (d + (k + 1)) (in_row turn_to j) (λ x y. (x, omega arith)) (λ x y. (x, omega (arith, apart))))

    pub part-more : set (part turn_to turn_from s d a k from to) place byte ≡ part turn_to turn_from s d a (k + 1) from to
    unfolding part written
    part-more =
        overlay-is-0 (picks a (k + 1)) value to written
        (length-set (overlay (picks a k) value 0 to) place byte ∙ length-overlay (picks a k) value 0 to)
        (λ j l. by-test (eqb j place) (λ e. same j (eqb-true j place e)) (λ e. other j (eqb-false j place e) l))

-- two that pick the same bytes, and there give the same values
pub overlay-same : (p q : ℕ → Bool) (v w : ℕ → ℕ) (to : List ℕ) → ((i : ℕ) → p i ≡ q i) → ((i : ℕ) → p i ≡ true → v i ≡ w i)
    → overlay p v 0 to ≡ overlay q w 0 to
overlay-same p q v w to e f =
    overlay-is-0 q w to (overlay p v 0 to) (length-overlay p v 0 to)
    (λ i l. get_d-overlay-0 p v to i l ∙ by-test (p i) (λ h. rw (← e i, h) (f i h)) (λ h. rw (← e i, h)))

-- the same part from another byte on: the row by its bytes from k on
pub part-from : (turn_to turn_from : Bool) (s d k n : ℕ) (from to : List ℕ)
    → part turn_to turn_from (s + k) (d + k) 0 n from to ≡ part turn_to turn_from s d k (k + n) from to
unfolding part
part-from turn_to turn_from s d k n from to =
    overlay-same (λ i. within (d + k + 0) (d + k + n) (in_row turn_to i)) (λ i. within (d + k) (d + (k + n)) (in_row turn_to i))
    (λ i. get_or from (in_row turn_from (s + k + (in_row turn_to i - (d + k)))) 0) (λ i. get_or from (in_row turn_from (s + (in_row turn_to i - d))) 0) to
    (λ i. within_same (d + k + 0) (d + k + n) (d + k) (d + (k + n)) (in_row turn_to i) (λ x y. (omega arith, omega arith)) (λ x y. (omega arith, omega arith)))
    (λ i h. ap (λ (j : ℕ). get_or from (in_row turn_from j) 0)
    (let w = within-is (d + k + 0) (d + k + n) (in_row turn_to i) h in
    let same : s + k + (in_row turn_to i - (d + k)) ≡ s + (in_row turn_to i - d) = omega arith in
    same))

-- n bytes that are put in the place of those from d on
module _ (d n : ℕ) (to xs : List ℕ) (inside : d + n ≤ length to) (long : length xs ≡ n) where
  abbrev put : List ℕ
  put = take d to ++ (xs ++ drop n (drop d to))

  before : length (take d to) ≡ d
  before = length-take-le d to (omega arith)

  length-put : length put ≡ length to
  length-put = let rest : length (drop n (drop d to)) ≡ length to - d - n = simp length-drop in simp length-append (omega (arith, before, rest))

  put-at : (i : ℕ) → get_or put i 0 ≡ cond (within (d + 0) (d + n) i) (get_or xs (i - d) 0) (get_or to i 0)
  put-at i =
      split d i
      (λ from.
      get_or-append_right (take d to) (xs ++ drop n (drop d to)) d i 0 before from
      ∙ split (d + n) i
      (λ past.
      rw (within-false (d + 0) (d + n) i (λ _ y. omega arith))
      (get_or-append_right xs (drop n (drop d to)) n (i - d) 0 long (omega arith)
      ∙ get_or-drop n (drop d to) (i - d - n) 0
      ∙ get_or-drop d to (n + (i - d - n)) 0
      ∙ ap (λ (k : ℕ). get_or to k 0) (omega arith)))
      (λ in'.
      rw (within-true (d + 0) (d + n) i (omega arith) in')
      (get_or_append_left xs (drop n (drop d to)) 0 (i - d) (omega arith))))
      (λ before'.
      rw (within-false (d + 0) (d + n) i (λ x _. omega arith))
      (get_or_append_left (take d to) (xs ++ drop n (drop d to)) 0 i (omega (arith, before)) ∙ get_or-take d to i 0 before'))

  pub placed : (turn_from : Bool) (s : ℕ) (from : List ℕ) → ((j : ℕ) → j < n → get_or xs j 0 ≡ get_or from (in_row turn_from (s + j)) 0)
      → put ≡ part false turn_from s d 0 n from to
  unfolding part
  placed turn_from s from e =
      overlay-is-0 (λ i. within (d + 0) (d + n) i) (λ i. get_or from (in_row turn_from (s + (i - d))) 0) to put length-put
      (λ i l. put-at i
      ∙ by-test (within (d + 0) (d + n) i)
      (λ h. let w = within-is (d + 0) (d + n) i h in rw h (e (i - d) (omega arith)))
      (λ h. rw h))

-- what is as long as what it is written over takes all of it
overwrite-whole : (new old : List ℕ) → length new ≡ length old → overwrite (take (length old) new) old ≡ new
overwrite-whole new old e =
    ap (λ (r : List ℕ). overwrite r old) (take_all (length old) new (omega (arith, e)))
    ∙ overwrite-is new old (length old) e
    ∙ ap (λ (r : List ℕ). new ++ r) (drop-length old)
    ∙ append-nil new

-- a run of an even row is copied as it stands
module _ (s d n : ℕ) (from to : List ℕ) (source : s + n ≤ length from) (target : d + n ≤ length to) {xs : List ℕ} (is : xs ≡ take (s + n - s) (drop s from)) where
  pub copied-as : put_mid d (d + n - d) to xs ≡ part false false s d 0 n from to
  copied-as =
      let read : s + n - s ≡ n = omega arith in
      let wrote : d + n - d ≡ n = omega arith in
      let e : xs ≡ take n (drop s from) = is ∙ ap (λ (k : ℕ). take k (drop s from)) read in
      rw wrote
      (placed d n to xs target (ap length e ∙ length-take-le n (drop s from) (simp length-drop (omega arith))) false s from
      (λ j h. ap (λ (x : List ℕ). get_or x j 0) e ∙ get_or-take n (drop s from) j 0 h ∙ get_or-drop s from j 0))

  pub copied-even : (into odd : Bool) → odd ≡ false
      → put_mid d (d + n - d) to xs ≡ part (cond into odd false) (cond into false odd) s d 0 n from to
  copied-even true odd e = rw e copied-as
  copied-even false odd e = rw e copied-as

-- a run that is written over as many bytes is all that stands there
pub written-over :
    (s d n : ℕ) (from to : List ℕ) → s + n ≤ length from → d + n ≤ length to → {xs : List ℕ} →
    xs ≡ overwrite (take (length (take (d + n - d) (drop d to))) (take (s + n - s) (drop s from))) (take (d + n - d) (drop d to)) →
    xs ≡ take (s + n - s) (drop s from)
written-over s d n from to source target is =
    let there : length (take (s + n - s) (drop s from)) ≡ s + n - s = length-take-le (s + n - s) (drop s from) (simp length-drop (omega arith)) in
    let here : length (take (d + n - d) (drop d to)) ≡ d + n - d = length-take-le (d + n - d) (drop d to) (simp length-drop (omega arith)) in
    is ∙ overwrite-whole (take (s + n - s) (drop s from)) (take (d + n - d) (drop d to)) (omega (arith, there, here))

-- ---- in a loop: bytes a up to k are taken

pub record Taken (turn_to turn_from : Bool) (s d a k : ℕ) (from before after : List ℕ) : Type 0 where
  pub long : length after ≡ length before
  pub is : after ≡ part turn_to turn_from s d a k from before

pub taken_none : {turn_to turn_from : Bool} {s d a : ℕ} {from before : List ℕ} → Taken turn_to turn_from s d a a from before before
taken_none {turn_to} {turn_from} {s} {d} {a} {from} {before} =
    record { long = refl; is = part_none turn_to turn_from s d from before a a (omega arith) }

pub taken_more : {turn_to turn_from : Bool} {s d a k : ℕ} {from before after : List ℕ} → Taken turn_to turn_from s d a k from before after → a ≤ k
    → in_row turn_to (d + k) < length before → {p v : ℕ} → p ≡ in_row turn_to (d + k) → v ≡ get_or from (in_row turn_from (s + k)) 0
    → Taken turn_to turn_from s d a (k + 1) from before (set after p v)
taken_more {turn_to} {turn_from} {s} {d} {a} {k} {from} {before} {after} t h inside {p} {v} at value =
    record {
      long = length-set after p v ∙ t.long;
      is = rw (t.is, at, value) (part-more turn_to turn_from s d from before a k h inside);
    }

-- n bytes more
pub taken-part : {turn_to turn_from : Bool} {s d a k : ℕ} {from before after : List ℕ} → Taken turn_to turn_from s d a k from before after → a ≤ k
    → (n : ℕ) {then : List ℕ} → then ≡ part turn_to turn_from (s + k) (d + k) 0 n from after → Taken turn_to turn_from s d a (k + n) from before then
taken-part {turn_to} {turn_from} {s} {d} {a} {k} {from} {before} {after} t h n e =
    record {
      long = ap length e ∙ length_part turn_to turn_from (s + k) (d + k) from after 0 n ∙ t.long;
      is =
          e
          ∙ part-from turn_to turn_from s d k n from after
          ∙ ap (part turn_to turn_from s d k (k + n) from) t.is
          ∙ part-joined turn_to turn_from s d from before a k (k + n) h (omega arith);
    }
