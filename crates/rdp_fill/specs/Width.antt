-- The fill colour is 32 bits that repeat over memory; a pixel of 1, 2 or 4 bytes takes the part that stands at its address.
use Rattle.std.specs.Prelude.{ℕ, ◌+◌, ◌-◌, ◌*◌, ◌/◌, ◌%◌, ◌^◌}

-- the colour's part of b bytes at address a, where a pixel of b bytes at a does not pass the end of the 32 bits
unfoldable pub pixel_value : ℕ → ℕ → ℕ → ℕ
pixel_value color b a = color / 2 ^ (32 - 8 * (a % 4 + b)) % 2 ^ (8 * b)

-- byte j of a value of b bytes, most significant first
unfoldable pub byte_of : ℕ → ℕ → ℕ → ℕ
byte_of b value j = value / 2 ^ (8 * (b - 1 - j)) % 256
