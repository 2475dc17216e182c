-- The mask of 0xE2 and 0xE3: `count` ones, from bit `shift` up, inside 32 bits. Assumes nothing.
use Rattle.std.proofs.Common.{◌≡◌, ◌∙◌, ℕ, ◌+◌, ◌-◌, ◌*◌, ◌%◌, ◌^◌, ◌≤◌, ◌<◌, lt_of_lt_of_le, one-mul, arith, pow_mono, shl_lt, shl_exact}
use Rattle.std.proofs.Math.Pow.{ones_lt}

module _ (shift count : ℕ) (inside : shift + count ≤ 32) where
  pub one_shifted : 1 * 2 ^ count % 2 ^ 64 ≡ 2 ^ count
  one_shifted = shl_exact 1 count 64 (omega arith) (omega arith) ∙ one-mul (2 ^ count)

  pub below : (2 ^ count - 1) * 2 ^ shift < 2 ^ 32
  below =
      let le : count + shift ≤ 32 = omega arith in
      lt_of_lt_of_le (shl_lt count shift (ones_lt count)) (pow_mono le)

  pub mask_is : (1 * 2 ^ count % 2 ^ 64 - 1) * 2 ^ shift % 2 ^ 64 ≡ (2 ^ count - 1) * 2 ^ shift
  mask_is = rw one_shifted (shl_exact count shift 64 (ones_lt count) (omega arith))
