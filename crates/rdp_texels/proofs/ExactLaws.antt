-- Which bytes the moves write, and that of two that write one byte the later stays. Assumes nothing.
use mathlib.Core.Path.{◌≡◌, refl, sym, ap, ◌∙◌}
use mathlib.Core.Bool.{Bool, true, false, cond, ◌||◌, false≢true, or-false}
use mathlib.Core.List.{List, [], ◌∷◌, ◌++◌, append_assoc}
use Prim.Native.Nat.{ℕ, ◌+◌, ◌-◌, ◌≤◌, ◌<◌}
use native.Mathlib.Omega.{arith}
use borrow.Author.Tests.{eqb-true, eqb-false, eq-eqb, not-false, leb-false}
use lib.Dec.{eqb, leb, ltb}
use lib.ListN.{length, get_or, set, length-set}
use lib.Seq.{get_or-set_same, get_or-set_other}
use Rattle.rdp_words.proofs.Tests.{by-test, true_of, false_of, neither}
use Rattle.rdp_pixels.specs.Overlay.{within}
use Rattle.rdp_pixels.proofs.BoolLaws.{and_is, same_truth}
use Rattle.rdp_pixels.proofs.OverlayLaws.{within-is}
use Rattle.rdp_texels.specs.Texels.{Move, some, texture_byte, outside_memory, outside_texture, load_one, loaded, copy_one, copied}
use Rattle.rdp_texels.specs.Written.{one_of_two, stands_at, goes_to, LastMove}
use Rattle.rdp_texels.proofs.RowLaws.{loaded-append, copied-append}
use Rattle.rdp_texels.proofs.SpanLaws.{some-append}

-- two bytes stored: elsewhere nothing changes, and there they stand
module _ (l : List ℕ) (a x y i : ℕ) where
  two-other : one_of_two i a ≡ false → get_or (set (set l a x) (a + 1) y) i 0 ≡ get_or l i 0
  two-other e =
      let parts = neither (eqb i a) (eqb i (a + 1)) e in
      get_or-set_other (set l a x) (a + 1) i y 0 (eqb-false i (a + 1) parts.1) ∙ get_or-set_other l a i x 0 (eqb-false i a parts.0)

  two-same : one_of_two i a ≡ true → a + 1 < length l → get_or (set (set l a x) (a + 1) y) i 0 ≡ cond (eqb i a) x y
  two-same e h =
      by-test (eqb i a)
      (λ first.
      let is : i ≡ a = eqb-true i a first in
      rw (first)
      (get_or-set_other (set l a x) (a + 1) i y 0 (λ z. omega arith) ∙
      ap (λ (k : ℕ). get_or (set l a x) k 0) is ∙
      get_or-set_same l a x 0 (omega arith)))
      (λ first.
      let is : i ≡ a + 1 = eqb-true i (a + 1) (rw first at e) in
      rw (first)
      (ap (λ (k : ℕ). get_or (set (set l a x) (a + 1) y) k 0) is ∙
      get_or-set_same (set l a x) (a + 1) y 0 (rw length-set h)))

-- where a test picks none of some moves, it picks no one of them, and none after that
pub none-split :
    (test : Move → Bool) {ms : List Move} (before : List Move) (m : Move) (after : List Move) → ms ≡ before ++ m ∷ after → some test ms ≡ false →
    (test m ≡ false) × (some test after ≡ false)
unfolding some
none-split test before m after s e =
    neither (test m) (some test after)
    (neither (some test before) (some test (m ∷ after)) (sym (some-append test before (m ∷ after)) ∙ rw s at e)).1

-- among moves that come at the end of some
last-from : (test : Move → Bool) (ms before later : List Move) → ms ≡ before ++ later → some test later ≡ true → (m : Move) × LastMove test ms m
unfolding some
last-from test ms before [] s t = absurd (false≢true t)
last-from test ms before (m ∷ later) s t =
    by-test (some test later) (λ y. last-from test ms (before ++ m ∷ []) later (s ∙ sym (append_assoc before (m ∷ []) later)) y)
    (λ n.
    let here : test m ≡ true = sym (or-false (test m)) ∙ rw n at t in
    (m, record { before = before; after = later; split = s; picked = rw here tt; staying = rw n tt }))

-- where a test picks one of some moves, there is a last one
pub last-move : (test : Move → Bool) (ms : List Move) → some test ms ≡ true → (m : Move) × LastMove test ms m
last-move test ms e = last-from test ms [] ms refl e

-- ---- a load

module _ (start : ℕ) (memory : List ℕ) where
  pub length-loaded : (ms : List Move) (texture : List ℕ) → length (loaded start memory ms texture) ≡ length texture
  unfolding loaded
  length-loaded [] texture = refl
  length-loaded (m ∷ ms) texture = length-loaded ms (load_one start memory texture m) ∙ simp length-set

  -- a byte that no texel goes to stays
  pub loaded-free : (ms : List Move) (texture : List ℕ) (b : ℕ) → some (goes_to b) ms ≡ false → get_or (loaded start memory ms texture) b 0 ≡ get_or texture b 0
  unfolding loaded some
  loaded-free [] texture b e = refl
  loaded-free (m ∷ ms) texture b e =
      let parts = neither (goes_to b m) (some (goes_to b) ms) e in
      loaded-free ms (load_one start memory texture m) b parts.1 ∙
      two-other texture (texture_byte m) (get_or memory (m.address - start) 0) (get_or memory (m.address - start + 1) 0) b parts.0

  -- "a later one wins": a byte is that of the last texel that goes to it
  pub loaded-last :
      (ms : List Move) (m : Move) (texture : List ℕ) (b : ℕ) → LastMove (goes_to b) ms m → texture_byte m + 1 < length texture →
      get_or (loaded start memory ms texture) b 0 ≡ cond (eqb b (texture_byte m)) (get_or memory (m.address - start) 0) (get_or memory (m.address - start + 1) 0)
  unfolding loaded
  loaded-last ms m texture b l inside =
      let then : List ℕ = loaded start memory l.before texture in
      ap (λ (x : List Move). get_or (loaded start memory x texture) b 0) l.split ∙
      ap (λ (x : List ℕ). get_or x b 0) (loaded-append start memory l.before (m ∷ l.after) texture) ∙
      loaded-free l.after (load_one start memory then m) b (false_of _ l.staying) ∙
      two-same then (texture_byte m) (get_or memory (m.address - start) 0) (get_or memory (m.address - start + 1) 0) b (true_of _ l.picked)
      (rw (length-loaded l.before texture) inside)

-- ---- a copy

module _ (start : ℕ) (texture : List ℕ) where
  pub length-copied : (ms : List Move) (memory : List ℕ) → length (copied start texture ms memory) ≡ length memory
  unfolding copied
  length-copied [] memory = refl
  length-copied (m ∷ ms) memory = length-copied ms (copy_one start texture memory m) ∙ simp length-set

  copied-apart :
      (ms : List Move) (memory : List ℕ) (i : ℕ) → some (λ m. one_of_two i (m.address - start)) ms ≡ false →
      get_or (copied start texture ms memory) i 0 ≡ get_or memory i 0
  unfolding copied some
  copied-apart [] memory i e = refl
  copied-apart (m ∷ ms) memory i e =
      let parts = neither (one_of_two i (m.address - start)) (some (λ m. one_of_two i (m.address - start)) ms) e in
      copied-apart ms (copy_one start texture memory m) i parts.1 ∙
      two-other memory (m.address - start) (get_or texture (texture_byte m) 0) (get_or texture (texture_byte m + 1) 0) i parts.0

-- a texel inside memory
inside_is : (start len : ℕ) (m : Move) → outside_memory start len m ≡ false → (start ≤ m.address) × (m.address + 1 < start + len)
inside_is start len m e =
    let parts = and_is (within start (start + len) m.address) (within start (start + len) (m.address + 1)) (not-false _ e) in
    ((within-is start (start + len) m.address parts.0).0, (within-is start (start + len) (m.address + 1) parts.1).1)

-- by its address, and by its index in memory
stands_by : (start i : ℕ) (m : Move) → start ≤ m.address → stands_at (start + i) m ≡ one_of_two i (m.address - start)
stands_by start i m h = λ j. one m.address (m.address - start) (omega arith) j || one (m.address + 1) (m.address - start + 1) (omega arith) j
  where
    one : (a k : ℕ) → a ≡ start + k → eqb (start + i) a ≡ eqb i k
    one a k e =
        same_truth (eqb (start + i) a) (eqb i k)
        (λ t. let is : start + i ≡ a = eqb-true (start + i) a t in eq-eqb i k (omega arith))
        (λ t. let is : i ≡ k = eqb-true i k t in eq-eqb (start + i) a (omega arith))

some-by : (start len i : ℕ) (ms : List Move) → some (outside_memory start len) ms ≡ false → some (stands_at (start + i)) ms ≡ some
    (λ m. one_of_two i (m.address - start)) ms
unfolding some
some-by start len i [] e = refl
some-by start len i (m ∷ ms) e =
    let parts = neither (outside_memory start len m) (some (outside_memory start len) ms) e in
    λ j. stands_by start i m (inside_is start len m parts.0).0 j || some-by start len i ms parts.1 j

module _ (start : ℕ) (texture : List ℕ) (ms : List Move) (memory : List ℕ) (inside : some (outside_memory start (length memory)) ms ≡ false) (i : ℕ) where
  -- a byte that no pixel has stays
  pub copied-free : some (stands_at (start + i)) ms ≡ false → get_or (copied start texture ms memory) i 0 ≡ get_or memory i 0
  copied-free e = copied-apart start texture ms memory i (sym (some-by start (length memory) i ms inside) ∙ e)

  -- "the later one written stays": a byte is that of the last pixel that has it
  pub copied-last :
      (m : Move) → LastMove (stands_at (start + i)) ms m →
      get_or (copied start texture ms memory) i 0 ≡ cond (eqb (start + i) m.address) (get_or texture (texture_byte m) 0) (get_or texture (texture_byte m + 1) 0)
  unfolding copied some
  copied-last m l =
      let then : List ℕ = copied start texture l.before memory in
      let parts = none-split (outside_memory start (length memory)) l.before m l.after l.split inside in
      let here = inside_is start (length memory) m parts.0 in
      let low = here.0 in
      let first : eqb i (m.address - start) ≡ eqb (start + i) m.address =
      same_truth (eqb i (m.address - start)) (eqb (start + i) m.address)
      (λ t. let is : i ≡ m.address - start = eqb-true i (m.address - start) t in eq-eqb (start + i) m.address (omega arith))
      (λ t. let is : start + i ≡ m.address = eqb-true (start + i) m.address t in eq-eqb i (m.address - start) (omega arith)) in
      ap (λ (x : List Move). get_or (copied start texture x memory) i 0) l.split ∙
      ap (λ (x : List ℕ). get_or x i 0) (copied-append start texture l.before (m ∷ l.after) memory) ∙
      copied-apart start texture l.after (copy_one start texture then m) i
      (sym (some-by start (length memory) i l.after parts.1) ∙ false_of _ l.staying) ∙
      two-same then (m.address - start) (get_or texture (texture_byte m) 0) (get_or texture (texture_byte m + 1) 0) i
      (sym (stands_by start i m here.0) ∙ true_of _ l.picked) (rw (length-copied start texture l.before memory) (omega (arith, here))) ∙
      ap (λ (b : Bool). cond b (get_or texture (texture_byte m) 0) (get_or texture (texture_byte m + 1) 0)) first

-- a texel that 18 does not refuse goes to bytes of texture memory
pub texture-inside : (m : Move) → outside_texture m ≡ false → texture_byte m + 1 < 4096
texture-inside m e = leb-false 4096 (texture_byte m + 1) (neither (ltb m.ahead m.behind) (leb 4096 (texture_byte m + 1)) e).1
