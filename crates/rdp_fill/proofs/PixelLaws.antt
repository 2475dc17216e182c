-- The tests of `Fill` are the tests of document 01's relations, as `Meaning` has them.
--     covers-sound, covers-complete       `covers f a` is the test of `Covers f a`
--     outside-sound, outside-complete     `outside` is the test that a covered address lies outside memory
--     two_bytes                           the tests of a fill on an image of 16 bits, whose pixels have two bytes
-- Assumes nothing.
use Rattle.std.proofs.Common.{◌≡◌, refl, sym, ◌∙◌, Bool, true, not, ◌&&◌, ◌||◌, ℕ, suc, ◌+◌, ◌-◌, ◌*◌, ◌/◌, ◌≤◌, ◌<◌, add-one, arith, eqb-true, eq-eqb, eqb}
use Rattle.std.proofs.Math.Bool.{or-false, false≢true}
use Rattle.std.proofs.lemmas.Bool.{not-true}
use Rattle.rdp_words.proofs.Tests.{by-test}
use Rattle.rdp_command.specs.declared.FillFields.{FillFields}
use Rattle.rdp_fill.specs.Fill.{bytes_per_pixel, covers, outside, pixel_address, some_byte}
use Rattle.rdp_pixels.specs.Kept.{kept}
use Rattle.rdp_fill.specs.Meaning.{Covers, IsFilled}
use Rattle.rdp_pixels.specs.Overlay.{within}
use Rattle.rdp_pixels.specs.Range.{one_of, one_through}
use Rattle.rdp_pixels.proofs.BoolLaws.{and_is, and-true-of}
use Rattle.rdp_pixels.proofs.RangeLaws.{one-is, one-true, one-cong}
use Rattle.rdp_pixels.proofs.OverlayLaws.{within-true, within-is}
use Rattle.rdp_pixels.proofs.KeptLaws.{row-kept-is, row-kept-true, kept-is, kept-true}

module _ (f : FillFields) (test : ℕ → Bool) where
  -- a byte of pixel (x, y), and of a pixel of row y, passes the test
  abbrev pixel_test : ℕ → ℕ → Bool
  pixel_test y x = kept f.scissor x y && one_of (pixel_address f.image x y) (bytes_per_pixel f.image.size) test

  abbrev row_test : ℕ → Bool
  row_test y =
      let r = f.rectangle in
      one_of (r.upper_left.x / 4) (suc (r.lower_right.x / 4) - r.upper_left.x / 4) (pixel_test y)

  -- the relations from the tests on a pixel
  covers_of : (x y a : ℕ) → (f.rectangle.upper_left.x / 4 ≤ x) × (x ≤ f.rectangle.lower_right.x / 4)
      → (f.rectangle.upper_left.y / 4 ≤ y) × (y ≤ f.rectangle.lower_right.y / 4)
      → kept f.scissor x y ≡ true
      → pixel_address f.image x y ≤ a → a < pixel_address f.image x y + bytes_per_pixel f.image.size → Covers f a
  covers_of x y a columns rows e start end =
      let k = kept-is f.scissor x y e in
      record {
        x = x;
        y = y;
        kept = record { columns = columns; rows = rows; across = k.across; down = k.down; parity = row-kept-is f.scissor y k.row };
        start = start;
        end = end;
      }

  kept_of : (x y : ℕ) → IsFilled f x y → kept f.scissor x y ≡ true
  kept_of x y k =
      kept-true f.scissor x y (record { across = k.across; down = k.down; row = row-kept-true f.scissor y k.parity })

  -- a covered address passes the test
  some_is : some_byte f test ≡ true → (a : ℕ) × Covers f a × (test a ≡ true)
  unfolding some_byte
  some_is e =
      let r = f.rectangle in
      let row = one-is (r.upper_left.y / 4) (suc (r.lower_right.y / 4) - r.upper_left.y / 4) row_test e in
      let y = row.0 in
      let column = one-is (r.upper_left.x / 4) (suc (r.lower_right.x / 4) - r.upper_left.x / 4) (pixel_test y) row.3 in
      let x = column.0 in
      let here = and_is (kept f.scissor x y) (one_of (pixel_address f.image x y) (bytes_per_pixel f.image.size) test) column.3 in
      let byte = one-is (pixel_address f.image x y) (bytes_per_pixel f.image.size) test here.1 in
      (byte.0, covers_of x y byte.0 (omega arith) (omega arith) here.0 byte.1 byte.2, byte.3)

  some-true : (a : ℕ) → Covers f a → test a ≡ true → some_byte f test ≡ true
  unfolding some_byte
  some-true a c e =
      let r = f.rectangle in
      let x = c.x in
      let y = c.y in
      let k = c.kept in
      one-true (r.upper_left.y / 4) (suc (r.lower_right.y / 4) - r.upper_left.y / 4) row_test y k.rows.0 (omega arith)
      (one-true (r.upper_left.x / 4) (suc (r.lower_right.x / 4) - r.upper_left.x / 4) (pixel_test y) x k.columns.0 (omega arith)
      (and-true-of (kept f.scissor x y) (one_of (pixel_address f.image x y) (bytes_per_pixel f.image.size) test)
      (kept_of x y k)
      (one-true (pixel_address f.image x y) (bytes_per_pixel f.image.size) test a c.start c.end e)))

-- ---- the two tests of `Fill`

module _ (f : FillFields) where
  pub covers-sound : (a : ℕ) → covers f a ≡ true → Covers f a
  covers-sound a e =
      let r = some_is f (eqb a) e in
      rw (eqb-true a r.0 r.2) r.1

  pub covers-complete : (a : ℕ) → Covers f a → covers f a ≡ true
  covers-complete a c = some-true f (eqb a) a c (eq-eqb a a refl)

  module _ (start len : ℕ) where
    pub outside-sound : outside f start len ≡ true → (a : ℕ) × Covers f a × ((start ≤ a) × (a < start + len) → ⊥)
    outside-sound e =
        let r = some_is f (λ a. not (within start (start + len) a)) e in
        (r.0, r.1, λ h. false≢true (sym (not-true (within start (start + len) r.0) r.2) ∙ within-true start (start + len) r.0 h.0 h.1))

    pub outside-complete : (a : ℕ) × Covers f a × ((start ≤ a) × (a < start + len) → ⊥) → outside f start len ≡ true
    outside-complete r =
        some-true f (λ a. not (within start (start + len) a)) r.0 r.1
        (by-test (within start (start + len) r.0) (λ e. absurd (r.2 (within-is start (start + len) r.0 e))) (λ e. rw e))

-- ---- an image of 16 bits

module _ (f : FillFields) (size : f.image.size ≡ 2) (test : ℕ → Bool) where
  abbrev pixel_at : ℕ → ℕ → ℕ
  pixel_at x y = f.image.address + (y * (f.image.width + 1) + x) * 2

  -- a kept pixel passes the test with one of its two bytes
  abbrev pub two_test : ℕ → ℕ → Bool
  two_test y x = kept f.scissor x y && (test (pixel_at x y) || test (pixel_at x y + 1))

  pixel-two : (y x : ℕ) → pixel_test f test y x ≡ two_test y x
  unfolding one_of pixel_address bytes_per_pixel
  pixel-two y x = rw (size, add-one (pixel_at x y), or-false)

  pub two_bytes :
      let r = f.rectangle in
      some_byte f test ≡
      one_through (r.upper_left.y / 4) (r.lower_right.y / 4) (λ y. one_through (r.upper_left.x / 4) (r.lower_right.x / 4) (two_test y))
  unfolding some_byte
  two_bytes =
      let r = f.rectangle in
      one-cong _ _ (r.upper_left.y / 4) (suc (r.lower_right.y / 4) - r.upper_left.y / 4)
      (λ y. one-cong _ _ (r.upper_left.x / 4) (suc (r.lower_right.x / 4) - r.upper_left.x / 4) (pixel-two y))
