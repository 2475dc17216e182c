-- The words of a command with the unused bits zero: what encoding writes of a command that was decoded.
use Rattle.std.specs.Prelude.{cond, List, [], ◌∷◌, ◌++◌, ℕ, zero, suc, ◌+◌, ◌*◌, ◌^◌, eqb}
use Rattle.rdp_words.specs.Words.{bytes_of, word_at}
use Rattle.rdp_command.specs.Layout.{Line, layout}
use Rattle.rdp_command.specs.Fields.{bits_at}
use Rattle.rdp_encode.specs.Encode.{fixed_bits}

-- the bits of a word at the lines of word i, all other bits zero
abbrev pub bits_kept : ℕ → List Line → ℕ → ℕ
bits_kept i [] w = 0
bits_kept i (l ∷ ls) w = cond (eqb l.word i) (bits_at l w * 2 ^ l.low) 0 + bits_kept i ls w

-- word i of the command with number n: its number and the bits of its lines
abbrev pub word_kept : ℕ → ℕ → ℕ → ℕ
word_kept n i w = cond (eqb i 0) (fixed_bits n * 2 ^ 56) 0 + bits_kept i (layout n) w

-- the first k words of a list so, as bytes
unfoldable pub bytes_kept : ℕ → List ℕ → ℕ → List ℕ
bytes_kept n bs zero = []
bytes_kept n bs (suc k) = bytes_kept n bs k ++ bytes_of (word_kept n k (word_at bs k))
