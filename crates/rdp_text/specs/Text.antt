-- Words as the bytes of a list, and bytes as text in hexadecimal. A text has three characters for each byte: the end of a line where a row starts, else a
-- space, and two digits.
use Rattle.std.specs.Prelude.{cond, List, map, ℕ, ◌+◌, ◌*◌, ◌-◌, ◌/◌, ◌%◌, ◌^◌, ltb, eqb, length, get_or}
use Rattle.std.specs.List.{range_with_len}

-- f 0 to f (n - 1)
abbrev pub tabulated : (ℕ → ℕ) → ℕ → List ℕ
tabulated f n = map f (range_with_len 0 n)

-- byte i of words, most significant byte first; 0 beyond them
abbrev pub byte_in : List ℕ → ℕ → ℕ
byte_in ws i = cond (ltb (i / 8) (length ws)) (get_or ws (i / 8) 0 / 2 ^ (8 * (7 - i % 8)) % 256) 0

-- the last hexadecimal digit of n: 0 to 9, a to f
abbrev pub digit_of : ℕ → ℕ
digit_of n = cond (ltb (n % 16) 10) (48 + n % 16) (87 + n % 16)

-- what stands before byte i in rows of some bytes; with rows of none, a space
abbrev pub mark_of : ℕ → ℕ → ℕ
mark_of row i = cond (eqb row 0) 32 (cond (eqb (i % row) 0) 10 32)

-- character k of the text of bytes; 0 beyond it
unfoldable pub character_of : ℕ → List ℕ → ℕ → ℕ
character_of row bs k =
    cond
    (ltb (k / 3) (length bs))
    (cond
    (eqb (k % 3) 0)
    (mark_of row (k / 3))
    (cond (eqb (k % 3) 1) (digit_of (get_or bs (k / 3) 0 / 16)) (digit_of (get_or bs (k / 3) 0))))
    0
