-- Signed numbers in two's complement of 64 bits. Assumes nothing.
use Rattle.std.proofs.Common.{ℕ, ◌<◌, ◌^◌, ◌≡◌, refl, ℤ, pos, negsuc, w16, w64, to_z, of_z, ltb}
use lib.Signed.{mag}
use Rattle.rdp_encode.specs.Placed.{fits_signed}
use Rattle.rdp_command.proofs.Signed.{read_back}

-- what a call of `twos` on a signed field gives
pub given :
    (z : ℤ) {r : ℕ} → mag z < 2 ^ 15 →
    (r ≡ of_z w64 (to_z w16 (of_z w16 z))) × (to_z w64 (of_z w64 (to_z w16 (of_z w16 z))) ≡ to_z w16 (of_z w16 z)) →
    (r ≡ of_z w64 z) × (to_z w64 (of_z w64 z) ≡ z)
given z f e = let k : to_z w16 (of_z w16 z) ≡ z = read_back f refl in rw k at e

-- a signed number fits by how far it is from 0, or from -1 where it is negative
pub signed-fits : (half : ℕ) (z : ℤ) → fits_signed half z ≡ ltb (mag z) half
signed-fits half (pos n) = refl
signed-fits half (negsuc n) = refl
