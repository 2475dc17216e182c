-- Packing an answer into one number loses nothing. Assumes nothing.
use Prim.Native.Nat.{ℕ, ◌^◌, ◌<◌}
use mathlib.Core.Path.{◌≡◌}
use native.Mathlib.Omega.{arith}
use Rattle.lanyardrove.specs.Replies.{Reply, reply, packed, unpacked}

-- an answer whose parts fit their bits
pub record Small (r : Reply) : Type 0 where
  pub number : r.number < 2 ^ 8
  pub third : r.third < 2 ^ 24
  pub place : r.place < 2 ^ 32

module _ (n t p : ℕ) (third-small : t < 2 ^ 24) (place-small : p < 2 ^ 32) where
  number-back : (unpacked (packed (reply n t p))).number ≡ n
  unfolding packed
  number-back = omega arith

  third_back : (unpacked (packed (reply n t p))).third ≡ t
  unfolding packed
  third_back = omega arith

  place-back : (unpacked (packed (reply n t p))).place ≡ p
  unfolding packed
  place-back = omega arith

-- its parts are read back
pub unpacked-packed : (r : Reply) → Small r → unpacked (packed r) ≡ r
unpacked-packed r s =
    λ i.
    reply (number-back r.number r.third r.place s.third s.place i) (third_back r.number r.third r.place s.third s.place i)
    (place-back r.number r.third r.place s.third s.place i)

pub packed-fits : (r : Reply) → Small r → packed r < 2 ^ 64
unfolding packed
packed-fits r s = omega (arith, s.number, s.third, s.place)
