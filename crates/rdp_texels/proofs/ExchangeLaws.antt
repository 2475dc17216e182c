-- Groups of eight bytes whose halves exchange places, as parts of an odd row. Assumes nothing.
use mathlib.Core.Path.{◌≡◌, refl, sym, ap, subst, ◌∙◌}
use mathlib.Core.Bool.{Bool, true, false, not, cond, ◌&&◌}
use mathlib.Core.List.{List, [], ◌∷◌, ◌++◌}
use Prim.Native.Nat.{ℕ, ◌+◌, ◌-◌, ◌*◌, ◌/◌, ◌%◌, ◌≤◌, ◌<◌}
use native.Mathlib.Omega.{arith}
use lib.Dec.{eqb}
use lib.ListN.{length, get_or, take, drop, length-append, length-drop}
use lib.Seq.{get_or-drop, drop-drop, length-take-le}
use borrow.Rule.Slice.PartMut.{put_mid, post_of}
use Rattle.std.proofs.lemmas.List.{drop_all, get_or-append_right, get_or_append_left, get_or-take}
use Rattle.rdp_pixels.specs.Overlay.{within}
use Rattle.rdp_pixels.proofs.BoolLaws.{same_truth}
use Rattle.rdp_pixels.proofs.OverlayLaws.{split, within-true, within-is}
use Rattle.rdp_texels.specs.Texels.{turned}
use Rattle.rdp_texels.specs.Run.{part}
use Rattle.rdp_texels.specs.Rows.{exchanged}
use Rattle.rdp_texels.proofs.TurnLaws.{turned-twice, turned-below, turned-above, turned_on}
use Rattle.rdp_texels.proofs.PartLaws.{overlay-same, placed, copied-as, part-joined, part-from, Taken, taken-part}

-- four bytes from one on
abbrev pub four : List ℕ → ℕ → List ℕ
four l a = get_or l a 0 ∷ get_or l (a + 1) 0 ∷ get_or l (a + 2) 0 ∷ get_or l (a + 3) 0 ∷ []

halves : (l : List ℕ) → length l ≡ 8 → (four l 0 ++ four l 4 ≡ l) × (four l 4 ++ four l 0 ≡ drop 4 l ++ take 4 l)
halves [] e = absurd (omega arith)
halves (a ∷ []) e = absurd (omega arith)
halves (a ∷ b ∷ []) e = absurd (omega arith)
halves (a ∷ b ∷ c ∷ []) e = absurd (omega arith)
halves (a ∷ b ∷ c ∷ d ∷ []) e = absurd (omega arith)
halves (a ∷ b ∷ c ∷ d ∷ f ∷ []) e = absurd (omega arith)
halves (a ∷ b ∷ c ∷ d ∷ f ∷ g ∷ []) e = absurd (omega arith)
halves (a ∷ b ∷ c ∷ d ∷ f ∷ g ∷ h ∷ []) e = absurd (omega arith)
halves (a ∷ b ∷ c ∷ d ∷ f ∷ g ∷ h ∷ i ∷ []) e = (refl, refl)
halves (a ∷ b ∷ c ∷ d ∷ f ∷ g ∷ h ∷ i ∷ j ∷ l) e = absurd (omega arith)

-- four bytes stored, then four more
four-stored : (l to : List ℕ) (a b : ℕ) → length to ≡ 8 → put_mid 4 4 (four l a ++ post_of 0 4 to) (four l b) ≡ four l a ++ four l b
four-stored l to a b e =
    ap (λ (r : List ℕ). four l a ++ (four l b ++ r)) (drop_all 4 (drop 4 (drop 0 to)) (simp length-drop (omega (arith, e))))

pub eight-stored : (turned : Bool) (l to first second : List ℕ) → length l ≡ 8 → length to ≡ 8 → first ≡ cond turned (four l 4) (four l 0)
    → second ≡ cond turned (four l 0) (four l 4) → put_mid 4 4 (first ++ post_of 0 4 to) second ≡ cond turned (drop 4 l ++ take 4 l) l
eight-stored true l to first second e h p q = rw (p, q) (four-stored l to 4 0 h ∙ (halves l e).1)
eight-stored false l to first second e h p q = rw (p, q) (four-stored l to 0 4 h ∙ (halves l e).0)

-- eight bytes of a list whose halves exchange places
pub exchanged-eight : (s d : ℕ) (from to : List ℕ) → s + 8 ≤ length from → d + 8 ≤ length to → {xs : List ℕ}
    → xs ≡ drop 4 (take 8 (drop s from)) ++ take 4 (take 8 (drop s from)) → put_mid d 8 to xs ≡ exchanged s d 8 from to
unfolding turned
exchanged-eight s d from to h k {xs} e =
    let g : List ℕ = take 8 (drop s from) in
    let long : length g ≡ 8 = length-take-le 8 (drop s from) (simp length-drop (omega arith)) in
    let high : length (drop 4 g) ≡ 4 = length-drop 4 g ∙ (omega (arith, long)) in
    let low : length (take 4 g) ≡ 4 = length-take-le 4 g (omega (arith, long)) in
    let all : length xs ≡ 8 = ap length e ∙ length-append (drop 4 g) (take 4 g) ∙ omega (arith, high, low) in
    placed d 8 to xs k all true 0 (drop s from)
    (λ j l. ap (λ (x : List ℕ). get_or x j 0) e
    ∙ split 4 j
    (λ x. get_or-append_right (drop 4 g) (take 4 g) 4 j 0 high x
    ∙ get_or-take 4 g (j - 4) 0 (omega arith)
    ∙ get_or-take 8 (drop s from) (j - 4) 0 (omega arith)
    ∙ ap (λ (i : ℕ). get_or (drop s from) i 0) (omega arith))
    (λ x. get_or_append_left (drop 4 g) (take 4 g) 0 j (omega (arith, high))
    ∙ get_or-drop 4 g j 0
    ∙ get_or-take 8 (drop s from) (4 + j) 0 (omega arith)
    ∙ ap (λ (i : ℕ). get_or (drop s from) i 0) (omega arith)))

module _ (s d n : ℕ) (from to : List ℕ) where
  -- out of texture memory: they are a part of an odd row that is taken from a multiple of 8 on
  pub exchanged-from : (0 < n → s % 8 ≡ 0) → exchanged s d n from to ≡ part false true s d 0 n from to
  unfolding part
  exchanged-from whole =
      overlay-same (λ i. within (d + 0) (d + n) i) (λ i. within (d + 0) (d + n) i)
      (λ i. get_or (drop s from) (turned (0 + (i - d))) 0) (λ i. get_or from (turned (s + (i - d))) 0) to
      (λ i. refl) value
    where
      value : (i : ℕ) → within (d + 0) (d + n) i ≡ true → get_or (drop s from) (turned (0 + (i - d))) 0 ≡ get_or from (turned (s + (i - d))) 0
      value i h =
          let w = within-is (d + 0) (d + n) i h in
          let zero : 0 + (i - d) ≡ i - d = omega arith in
          get_or-drop s from (turned (0 + (i - d))) 0
          ∙ ap (λ (j : ℕ). get_or from j 0) (ap (λ (j : ℕ). s + turned j) zero ∙ sym (turned_on s (whole (omega arith)) (i - d)))

  -- into texture memory: they are a part of an odd row that goes to a multiple of 8 on
  module _ (eights : n % 8 ≡ 0) (whole : 0 < n → d % 8 ≡ 0) where
    stays : (i : ℕ) → within (d + 0) (d + n) i ≡ true → within (d + 0) (d + n) (turned i) ≡ true
    stays i h =
        let w = within-is (d + 0) (d + n) i h in
        let e = whole (omega arith) in
        let low : d ≡ 8 * (d / 8) = omega arith in
        let high : d + n ≡ 8 * ((d + n) / 8) = omega arith in
        let above = turned-above i (d / 8) (omega arith) in
        let below = turned-below i ((d + n) / 8) (omega arith) in
        within-true (d + 0) (d + n) (turned i) (omega arith) (omega arith)

    picks : (i : ℕ) → within (d + 0) (d + n) i ≡ within (d + 0) (d + n) (turned i)
    picks i =
        same_truth (within (d + 0) (d + n) i) (within (d + 0) (d + n) (turned i)) (stays i)
        (λ h. rw (turned-twice i) at (stays (turned i) h))

    value : (i : ℕ) → within (d + 0) (d + n) i ≡ true → get_or (drop s from) (turned (0 + (i - d))) 0 ≡ get_or from (s + (turned i - d)) 0
    value i h =
        let w = within-is (d + 0) (d + n) i h in
        let zero : 0 + (i - d) ≡ i - d = omega arith in
        let on = turned_on d (whole (omega arith)) (i - d) in
        let is : d + (i - d) ≡ i = omega arith in
        let at : turned i ≡ d + turned (i - d) = sym (ap turned is) ∙ on in
        get_or-drop s from (turned (0 + (i - d))) 0
        ∙ ap (λ (j : ℕ). get_or from (s + j) 0) (ap turned zero ∙ (let same : turned (i - d) ≡ turned i - d = omega arith in same))

    pub exchanged-to : exchanged s d n from to ≡ part true false s d 0 n from to
    unfolding part
    exchanged-to =
        overlay-same (λ i. within (d + 0) (d + n) i) (λ i. within (d + 0) (d + n) (turned i))
        (λ i. get_or (drop s from) (turned (0 + (i - d))) 0) (λ i. get_or from (s + (turned i - d)) 0) to picks value

-- eight bytes over eight others
pub both-eight : (from to : List ℕ) {moved : List ℕ} → length from ≡ 8 → length to ≡ 8
    → cond (eqb (length from) 8 && eqb (length to) 8) moved to ≡ moved
both-eight from to h k = rw (h, k) refl

-- eight bytes of a list
pub slice-eight : (s : ℕ) (l : List ℕ) → s + 8 ≤ length l → length (take (s + 8 - s) (drop s l)) ≡ 8
slice-eight s l h =
    let n : s + 8 - s ≡ 8 = omega arith in
    rw n (length-take-le 8 (drop s l) (simp length-drop (omega arith)))

-- eight bytes that go to a multiple of 8 of texture memory
pub eight-moved : (turned : Bool) (s d : ℕ) (from to : List ℕ) → s + 8 ≤ length from → d + 8 ≤ length to → d % 8 ≡ 0 → {xs : List ℕ}
    → (let g = take (s + 8 - s) (drop s from) in xs ≡ cond turned (drop 4 g ++ take 4 g) g) → put_mid d (d + 8 - d) to xs ≡ part turned false s d 0 8 from to
eight-moved true s d from to h k whole {xs} e =
    let read : s + 8 - s ≡ 8 = omega arith in
    let wrote : d + 8 - d ≡ 8 = omega arith in
    rw wrote (exchanged-eight s d from to h k (rw read at e) ∙ exchanged-to s d 8 from to refl (λ _. whole))
eight-moved false s d from to h k whole e = copied-as s d 8 from to h k e

-- ---- in a loop: i eights are exchanged, and then one more

pub exchanged-more : (s d i : ℕ) (from : List ℕ) {before after : List ℕ} → Taken false true 0 d 0 (8 * i) (drop s from) before after
    → s + 8 * (i + 1) ≤ length from → d + 8 * (i + 1) ≤ length before → {xs : List ℕ}
    → (let g = take (s + 8 * i + 8 - (s + 8 * i)) (drop (s + 8 * i) from) in xs ≡ drop 4 g ++ take 4 g)
    → Taken false true 0 d 0 (8 * (i + 1)) (drop s from) before (put_mid (d + 8 * i) (d + 8 * i + 8 - (d + 8 * i)) after xs)
exchanged-more s d i from {before} {after} t h k {xs} e =
    let m : ℕ = 8 * i in
    let count : m + 8 ≡ 8 * (i + 1) = omega arith in
    let read : s + m + 8 - (s + m) ≡ 8 = omega arith in
    let wrote : d + m + 8 - (d + m) ≡ 8 = omega arith in
    let zero : m ≡ 0 + m = omega arith in
    subst (λ (n : ℕ). Taken false true 0 d 0 n (drop s from) before (put_mid (d + m) (d + m + 8 - (d + m)) after xs)) count
    (taken-part t (omega arith) 8
    (ap (λ (n : ℕ). put_mid (d + m) n after xs) wrote
    ∙ exchanged-eight m (d + m) (drop s from) after (simp length-drop (omega arith)) (omega (arith, t.long))
    (e ∙ ap (λ (g : List ℕ). drop 4 g ++ take 4 g)
    (ap (λ (n : ℕ). take n (drop (s + m) from)) read ∙ ap (take 8) (sym (drop-drop m s from))))
    ∙ exchanged-from m (d + m) 8 (drop s from) after (λ _. omega arith)
    ∙ ap (λ (j : ℕ). part false true j (d + m) 0 8 (drop s from) after) zero))

-- ---- an odd row in three parts, the middle one in groups

module _ (turn_to turn_from : Bool) (s d : ℕ) (from before : List ℕ) where
  three : (first n m : ℕ) {one two end : List ℕ} → first + m ≤ n → one ≡ part turn_to turn_from s d 0 first from before
      → two ≡ part turn_to turn_from (s + first) (d + first) 0 m from one → end ≡ part turn_to turn_from s d (first + m) n from two
      → end ≡ part turn_to turn_from s d 0 n from before
  three first n m {one} fits a b c =
      c
      ∙ ap (part turn_to turn_from s d (first + m) n from)
      (b
      ∙ part-from turn_to turn_from s d first m from one
      ∙ ap (part turn_to turn_from s d first (first + m) from) a
      ∙ part-joined turn_to turn_from s d from before 0 first (first + m) (omega arith) (omega arith))
      ∙ part-joined turn_to turn_from s d from before 0 (first + m) n (omega arith) fits

-- the first bytes and the last ones one by one, `groups` eights between them exchanged
module _ (s d first n groups : ℕ) (from before : List ℕ) {one two end : List ℕ} (fits : first + 8 * groups ≤ n) where
  odd-parts : (into : Bool) → (first < n → (cond into d s + first) % 8 ≡ 0) → one ≡ part into (not into) s d 0 first from before
      → two ≡ exchanged (s + first) (d + first) (8 * groups) from one → end ≡ part into (not into) s d (first + 8 * groups) n from two
      → end ≡ part into (not into) s d 0 n from before
  odd-parts true whole a b c =
      three true false s d from before first n (8 * groups) fits a
      (b ∙ exchanged-to (s + first) (d + first) (8 * groups) from one (omega arith) (λ h. whole (omega arith))) c
  odd-parts false whole a b c =
      three false true s d from before first n (8 * groups) fits a
      (b ∙ exchanged-from (s + first) (d + first) (8 * groups) from one (λ h. whole (omega arith))) c

-- of a run that is odd, one side is turned
turned-side : (into odd : Bool) → odd ≡ true → (s d n : ℕ) (from to : List ℕ)
    → part into (not into) s d 0 n from to ≡ part (cond into odd false) (cond into false odd) s d 0 n from to
turned-side true odd e s d n from to = rw e
turned-side false odd e s d n from to = rw e

pub odd-three : (into odd : Bool) → odd ≡ true → (s d first n groups : ℕ) (from before : List ℕ) {one two end : List ℕ} → first + 8 * groups ≤ n
    → (first < n → (cond into d s + first) % 8 ≡ 0) → one ≡ part into (not into) s d 0 first from before
    → two ≡ exchanged (s + first) (d + first) (8 * groups) from one → end ≡ part into (not into) s d (first + 8 * groups) n from two
    → end ≡ part (cond into odd false) (cond into false odd) s d 0 n from before
odd-three into odd e s d first n groups from before fits whole a b c =
    odd-parts s d first n groups from before fits into whole a b c ∙ turned-side into odd e s d n from before
