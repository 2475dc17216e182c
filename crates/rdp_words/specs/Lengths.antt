-- Document 01, "Words and lengths": the words of the first command of a list, and the bytes that follow a triangle's base.
use Rattle.std.specs.Prelude.{cond, List, ℕ, ◌+◌, ◌-◌, ◌*◌, ◌/◌, ◌%◌, ◌^◌, ltb, length, take, drop}
use Rattle.rdp_words.specs.Words.{word_at, number_in}
use Rattle.rdp_words.specs.Kinds.{between, words_of}

-- the number of the first command
abbrev pub first_number : List ℕ → ℕ
first_number bs = number_in (word_at bs 0)

-- bit k of a word
abbrev pub bit : ℕ → ℕ → ℕ
bit k w = w / 2 ^ k % 2

-- document 02, #102: the words of the command that begins with a word, of which bits 63:62 don't count. "For triangles .. 4 plus 8, 8 and 2 for bits 58, 57
-- and 56, else by 01's table"
unfoldable pub command_words : ℕ → ℕ
command_words w =
    let n = number_in w in
    cond (between 0x08 0x0F n) (4 + 8 * bit 58 w + 8 * bit 57 w + 2 * bit 56 w) (words_of n)

-- the words of the first command, or 0 where they are not all there
unfoldable pub whole_words : List ℕ → ℕ
whole_words bs = cond (ltb (length bs / 8) (words_of (first_number bs))) 0 (words_of (first_number bs))

-- the words of a command that follow a triangle's base of four; none for any other
abbrev pub suffix_words : ℕ → ℕ
suffix_words n = n - 4

-- where the suffix begins in the list, in bytes; an empty one at 0
unfoldable pub suffix_start : List ℕ → ℕ
suffix_start bs = cond (ltb 4 (whole_words bs)) 32 0

-- the bytes after a triangle's base, as many as its number says
unfoldable pub suffix_of : List ℕ → List ℕ
suffix_of bs = take (8 * suffix_words (whole_words bs)) (drop (suffix_start bs) bs)
