-- The fill colour as a pattern of bytes, and what is written with it. No public contract cites this.
use Rattle.std.specs.Prelude.{◌≡◌, List, ℕ, ◌+◌, ◌<◌, length, get_or}
use Rattle.rdp_fill.specs.Fill.{color_byte}

-- the first n of some bytes are the colour's, which repeat, from its byte at `at` on
pub record Holds (color at : ℕ) (bytes : List ℕ) (n : ℕ) : Type 0 where
  pub byte : (k : ℕ) → k < n → get_or bytes k 0 ≡ color_byte color (at + k)

-- the first n of some bytes are those of the colour that the pattern holds
pub record Follows (pattern bytes : List ℕ) (n : ℕ) : Type 0 where
  pub holds : (color at : ℕ) → Holds color at pattern (length pattern) → Holds color at bytes n
