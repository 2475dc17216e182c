-- Document 02, #106: "coverage, scissor and ground 12 are as for fill". The bytes of a copy rectangle's kept pixels, and refusal 12 of it, are those of a fill
-- of the same corners, under the same scissor and on the same image of 16 bits. Assumes nothing.
use mathlib.Core.Path.{◌≡◌, refl, sym, ◌∙◌}
use mathlib.Core.Bool.{Bool, true, false, not, ◌&&◌, ◌||◌}
use Prim.Native.Nat.{ℕ, ◌+◌}
use lib.Dec.{eqb}
use Rattle.rdp_command.specs.declared.CopyFields.{CopyFields}
use Rattle.rdp_command.specs.declared.FillFields.{FillFields}
use Rattle.rdp_pixels.specs.Overlay.{within}
use Rattle.rdp_texels.specs.Texels.{some, outside_memory}
use Rattle.rdp_texels.specs.Copy.{copy_moves}
use Rattle.rdp_texels.specs.Written.{stands_at}
use Rattle.rdp_texels.proofs.LinkLaws.{some-copied}
use Rattle.rdp_fill.specs.Fill.{covers, outside, some_byte}
use Rattle.rdp_fill.proofs.PixelLaws.{two_bytes}

-- the fill of the same pixels
abbrev pub same_fill : CopyFields → FillFields
same_fill c =
    record {
      cycle_type = 3;
      rectangle = record { lower_right = c.rectangle.lower_right; upper_left = c.rectangle.upper_left };
      scissor = c.scissor;
      image = c.image;
      color = 0;
    }

module _ (c : CopyFields) (size : c.image.size ≡ 2) where
  -- a test of addresses, at one of a texel's bytes
  bytes-as-fill : (test : ℕ → Bool) → some (λ m. test m.address || test (m.address + 1)) (copy_moves c) ≡ some_byte (same_fill c) test
  bytes-as-fill test = some-copied c (λ m. test m.address || test (m.address + 1)) ∙ sym (two_bytes (same_fill c) size test)

  -- coverage
  pub covers-as-fill : (a : ℕ) → some (stands_at a) (copy_moves c) ≡ covers (same_fill c) a
  covers-as-fill a = bytes-as-fill (eqb a)

  -- 12
  pub outside-as-fill : (start len : ℕ) → some (outside_memory start len) (copy_moves c) ≡ outside (same_fill c) start len
  outside-as-fill start len =
      (λ i. some (λ m. apart (within start (start + len) m.address) (within start (start + len) (m.address + 1)) i) (copy_moves c)) ∙
      bytes-as-fill (λ a. not (within start (start + len) a))
    where
      apart : (a b : Bool) → not (a && b) ≡ (not a || not b)
      apart true b = refl
      apart false b = refl
