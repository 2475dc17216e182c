-- Refusals 12 and 18 of a strip by its ends. Assumes nothing.
use mathlib.Core.Path.{◌≡◌, refl, sym, ◌∙◌}
use mathlib.Core.Bool.{Bool, true, false, cond, not, ◌&&◌, false≢true}
use mathlib.Core.List.{[], ◌∷◌}
use Prim.Native.Nat.{ℕ, ◌+◌, ◌-◌, ◌*◌, ◌%◌, ◌≤◌, ◌<◌}
use native.Mathlib.Omega.{arith}
use borrow.Author.Tests.{le-leb, lt-leb, le-ltb, leb-true, leb-false, not-true, not-false}
use lib.Dec.{leb, ltb}
use Rattle.rdp_words.proofs.Tests.{by-test, neither}
use Rattle.rdp_pixels.specs.Overlay.{within}
use Rattle.rdp_pixels.proofs.BoolLaws.{and_is, and-true-of, other-truth}
use Rattle.rdp_pixels.proofs.OverlayLaws.{within-true, within-is}
use Rattle.rdp_texels.specs.Texels.{Move, moves_over, some, in_row, outside_memory, outside_texture}
use Rattle.rdp_texels.proofs.TurnLaws.{row_next, row_below, row-below-is}
use Rattle.rdp_texels.proofs.SpanLaws.{some-single, some-over-is, some-over-true}
use Rattle.rdp_block.specs.Strips.{Strip, strip_move, strip_moves, flat, strip_refusal}

-- ---- a test of texels that lie two bytes on each

module _ (f : ℕ → Move) (test : Move → Bool) (base low size n : ℕ) (some-texel : 0 < n)
    (sound : (k : ℕ) → test (f k) ≡ true → low ≤ base + 2 * k → base + 2 * k + 2 ≤ low + size → ⊥)
    (complete : (k : ℕ) → test (f k) ≡ false → (low ≤ base + 2 * k) × (base + 2 * k + 2 ≤ low + size)) where
  ends : some test (moves_over 0 n (λ k. f k ∷ [])) ≡ not (flat base n low size)
  ends =
      other-truth (some test (moves_over 0 n (λ k. f k ∷ []))) (flat base n low size)
      (λ bad good.
      let m = some-over-is test (λ k. f k ∷ []) 0 n bad in
      let parts = and_is (leb low base) (leb (base + 2 * n) (low + size)) good in
      let from = leb-true low base parts.0 in
      let to = leb-true (base + 2 * n) (low + size) parts.1 in
      sound m.0 (sym (some-single test (f m.0)) ∙ m.3) (omega arith) (omega arith))
      (λ none.
      let never : (k : ℕ) → k < n → test (f k) ≡ false =
      λ k h. by-test (test (f k))
      (λ e. absurd (false≢true (sym none ∙ some-over-true test (λ k. f k ∷ []) 0 n k (omega arith) (omega arith) (some-single test (f k) ∙ e))))
      (λ e. e) in
      let one = complete 0 (never 0 some-texel) in
      let two = complete (n - 1) (never (n - 1) (omega arith)) in
      and-true-of (leb low base) (leb (base + 2 * n) (low + size)) (le-leb low base (omega arith)) (le-leb (base + 2 * n) (low + size) (omega arith)))

module _ (q : Strip) (some-texel : 0 < q.count) where
  strip-memory : (start len : ℕ) → some (outside_memory start len) (strip_moves q 0 q.count) ≡ not (flat q.address q.count start len)
  unfolding strip_moves
  strip-memory start len = ends (strip_move q) (outside_memory start len) q.address start len q.count some-texel sound complete
    where
      sound : (k : ℕ) → outside_memory start len (strip_move q k) ≡ true → start ≤ q.address + 2 * k → q.address + 2 * k + 2 ≤ start + len → ⊥
      sound k bad l h =
          let a : ℕ = q.address + 2 * k in
          false≢true (sym (not-true (within start (start + len) a && within start (start + len) (a + 1)) bad)
          ∙ and-true-of (within start (start + len) a) (within start (start + len) (a + 1))
          (within-true start (start + len) a (omega arith) (omega arith))
          (within-true start (start + len) (a + 1) (omega arith) (omega arith)))

      complete : (k : ℕ) → outside_memory start len (strip_move q k) ≡ false → (start ≤ q.address + 2 * k) × (q.address + 2 * k + 2 ≤ start + len)
      complete k good =
          let a : ℕ = q.address + 2 * k in
          let both = not-false (within start (start + len) a && within start (start + len) (a + 1)) good in
          let parts = and_is (within start (start + len) a) (within start (start + len) (a + 1)) both in
          let one = within-is start (start + len) a parts.0 in
          let two = within-is start (start + len) (a + 1) parts.1 in
          (omega arith, omega arith)

  strip-texture : q.ahead % 8 ≡ 0 → some outside_texture (strip_moves q 0 q.count) ≡ not (flat q.ahead q.count 0 4096)
  unfolding strip_moves
  strip-texture whole = ends (strip_move q) outside_texture q.ahead 0 4096 q.count some-texel sound complete
    where
      next : (k : ℕ) → in_row (strip_move q k).odd (q.ahead + 2 * k - 0 + 1) ≡ in_row (strip_move q k).odd (q.ahead + 2 * k - 0) + 1
      next k = row_next (strip_move q k).odd (q.ahead + 2 * k - 0) (omega arith)

      sound : (k : ℕ) → outside_texture (strip_move q k) ≡ true → 0 ≤ q.ahead + 2 * k → q.ahead + 2 * k + 2 ≤ 0 + 4096 → ⊥
      sound k bad l h =
          let below = row_below (strip_move q k).odd (q.ahead + 2 * k - 0 + 1) 512 (omega arith) in
          let n = next k in
          false≢true
          (rw (le-ltb (q.ahead + 2 * k) 0 (omega arith), lt-leb 4096 (in_row (strip_move q k).odd (q.ahead + 2 * k - 0) + 1) (omega arith)) at bad)

      complete : (k : ℕ) → outside_texture (strip_move q k) ≡ false → (0 ≤ q.ahead + 2 * k) × (q.ahead + 2 * k + 2 ≤ 0 + 4096)
      complete k good =
          let parts = neither (ltb (q.ahead + 2 * k) 0) (leb 4096 (in_row (strip_move q k).odd (q.ahead + 2 * k - 0) + 1)) good in
          let high = leb-false 4096 (in_row (strip_move q k).odd (q.ahead + 2 * k - 0) + 1) parts.1 in
          let n = next k in
          let below = row-below-is (strip_move q k).odd (q.ahead + 2 * k - 0 + 1) 512 (omega arith) in
          (omega arith, omega arith)

  -- 12, else 18, else 0
  pub strip-refusal : q.ahead % 8 ≡ 0 → (len : ℕ)
      → let ms = strip_moves q 0 q.count in
      ◌≡◌ {A = ℕ} (cond (some (outside_memory q.start len) ms) 12 (cond (some outside_texture ms) 18 0)) (strip_refusal q len)
  strip-refusal whole len =
      rw (strip-memory q.start len, strip-texture whole)
      (picked (flat q.address q.count q.start len) (flat q.ahead q.count 0 4096))
    where
      picked : (a b : Bool) → ◌≡◌ {A = ℕ} (cond (not a) 12 (cond (not b) 18 0)) (cond a (cond b 0 18) 12)
      picked true true = refl
      picked true false = refl
      picked false b = refl
