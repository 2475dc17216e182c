-- For every width alike, each byte of a pixel's value is `color_byte` of its own address. Assumes nothing.
use Rattle.std.proofs.Common.{◌≡◌, refl, sym, ap, ◌∙◌, ◌⊎◌, inl, inr, ⊎_elim, Bool, true, false, cond, ℕ, ◌+◌, ◌-◌, ◌*◌, ◌/◌, ◌%◌, ◌^◌, ◌≤◌, ◌<◌, mod-eq_of_lt, arith, eqb, shr-shr}
use Rattle.std.proofs.Math.Nat.{mod-add-mod}
use Rattle.std.proofs.Math.Pow.{field, mod-mod-pow}
use Rattle.rdp_command.specs.declared.Image.{Image}
use Rattle.rdp_fill.specs.Fill.{color_byte, bytes_per_pixel, pixel_address}
use Rattle.rdp_fill.specs.Width.{pixel_value, byte_of}

pub width-once : (color b a j : ℕ) → a % 4 + b ≤ 4 → j < b → byte_of b (pixel_value color b a) j ≡ color_byte color (a + j)
unfolding pixel_value byte_of color_byte
width-once color b a j fits h =
    let s : ℕ = 32 - 8 * (a % 4 + b) in
    let t : ℕ = 8 * (b - 1 - j) in
    let wide : 8 * b ≡ 8 * j + 8 + t = omega arith in
    let inside : a % 4 + j < 4 = omega arith in
    let same : (a + j) % 4 ≡ a % 4 + j = sym (mod-add-mod a 4 j) ∙ mod-eq_of_lt inside in
    let place : s + t ≡ 24 - 8 * ((a + j) % 4) = omega arith in
    ap (λ (n : ℕ). color / 2 ^ s % 2 ^ n / 2 ^ t % 256) wide
    ∙ ap (λ (n : ℕ). n % 256) (field (color / 2 ^ s) (8 * j + 8) t)
    ∙ mod-mod-pow (color / 2 ^ s / 2 ^ t) (8 * j) 8
    ∙ ap (λ (n : ℕ). n % 256) (shr-shr color s t ∙ ap (λ (n : ℕ). color / 2 ^ n) place)

bytes-cases : (size : ℕ) → let b = bytes_per_pixel size in (b ≡ 0) ⊎ (b ≡ 1) ⊎ (b ≡ 2) ⊎ (b ≡ 4)
unfolding bytes_per_pixel
bytes-cases size = cases (eqb size 1) (eqb size 2) (eqb size 3)
  where
    cases : (p q r : Bool) → let b : ℕ = cond p 1 (cond q 2 (cond r 4 0)) in (b ≡ 0) ⊎ (b ≡ 1) ⊎ (b ≡ 2) ⊎ (b ≡ 4)
    cases true q r = inr (inl refl)
    cases false true r = inr (inr (inl refl))
    cases false false true = inr (inr (inr refl))
    cases false false false = inl refl

-- no pixel of an image whose address is a multiple of 4 passes the end of the 32 bits
pub pixel-fits : (i : Image) (x y : ℕ) → i.address % 4 ≡ 0 → pixel_address i x y % 4 + bytes_per_pixel i.size ≤ 4
unfolding pixel_address
pixel-fits i x y h =
    ⊎_elim (λ e. rw e (omega arith)) (⊎_elim (λ e. rw e (omega arith)) (⊎_elim (λ e. rw e (omega arith)) (λ e. rw e (omega arith))))
    (bytes-cases i.size)

-- the value that a pixel takes, byte by byte
pub pixel-bytes : (i : Image) (x y color j : ℕ) → i.address % 4 ≡ 0 → j < bytes_per_pixel i.size
    → byte_of (bytes_per_pixel i.size) (pixel_value color (bytes_per_pixel i.size) (pixel_address i x y)) j ≡ color_byte color (pixel_address i x y + j)
pixel-bytes i x y color j h = width-once color (bytes_per_pixel i.size) (pixel_address i x y) j (pixel-fits i x y h)
