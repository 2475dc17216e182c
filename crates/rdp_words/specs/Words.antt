-- Document 01, "Words and lengths": a list is bytes, 64-bit words, most significant byte first. Places are counted in words from 0.
use Rattle.std.specs.Prelude.{Bool, true, false, cond, ◌&&◌, List, [], ◌∷◌, ◌++◌, ◌≡◌, ℕ, ◌+◌, ◌*◌, ◌/◌, ◌%◌, ◌^◌, eqb, ltb, length, get_or, take, drop}

-- the first four bytes as a number
unfoldable pub half_of : List ℕ → ℕ
half_of bs = get_or bs 0 0 * 2 ^ 24 + get_or bs 1 0 * 2 ^ 16 + get_or bs 2 0 * 2 ^ 8 + get_or bs 3 0

-- the first eight bytes as a word
abbrev pub word_of : List ℕ → ℕ
word_of bs = half_of bs * 2 ^ 32 + half_of (drop 4 bs)

-- word k of a list; 0 where the list has no whole word k
unfoldable pub word_at : List ℕ → ℕ → ℕ
word_at bs k = cond (ltb k (length bs / 8)) (word_of (drop (8 * k) bs)) 0

-- the bytes of a word
abbrev pub bytes_of : ℕ → List ℕ
bytes_of w =
    w / 2 ^ 56 % 256 ∷ w / 2 ^ 48 % 256 ∷ w / 2 ^ 40 % 256 ∷ w / 2 ^ 32 % 256 ∷ w / 2 ^ 24 % 256 ∷ w / 2 ^ 16 % 256 ∷ w / 2 ^ 8 % 256 ∷ w % 256 ∷ []

-- the bytes of words, one after the other
abbrev pub bytes_of_words : List ℕ → List ℕ
bytes_of_words [] = []
bytes_of_words (w ∷ ws) = bytes_of w ++ bytes_of_words ws

-- the same bytes
unfoldable pub same_bytes : List ℕ → List ℕ → Bool
same_bytes [] [] = true
same_bytes [] (b ∷ bs) = false
same_bytes (a ∷ xs) [] = false
same_bytes (a ∷ xs) (b ∷ ys) = eqb a b && same_bytes xs ys

-- the number of a command: bits 61:56 of its first word
abbrev pub number_in : ℕ → ℕ
number_in w = w / 2 ^ 56 % 64

-- the bytes of a word with a number in bits 61:56 and all other bits 0
abbrev pub bare_word : ℕ → List ℕ
bare_word n = n ∷ 0 ∷ 0 ∷ 0 ∷ 0 ∷ 0 ∷ 0 ∷ 0 ∷ []

-- a list with elements written at its front
unfoldable pub overwrite : {A : Type 0} → List A → List A → List A
overwrite new old = new ++ drop (length new) old

-- a list with elements written from index a on
unfoldable pub pasted : {A : Type 0} → ℕ → List A → List A → List A
pasted a new old = take a old ++ overwrite new (drop a old)

-- elements written to an index, and the index after them: what private functions of the repair and of the comparison promise
pub record WrittenIs (new : List ℕ) (at next : ℕ) (out out' : List ℕ) : Type 0 where
  pub after : next ≡ at + length new
  pub output : out' ≡ pasted at new out
