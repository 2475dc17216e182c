-- Document 01, "Words and lengths": the table of command numbers, kinds and words; by document 02, #107, with a row of unassigned numbers.
use Rattle.std.specs.Prelude.{Bool, true, false, cond, ◌&&◌, ◌||◌, List, [], ◌∷◌, ℕ, ◌+◌, ◌/◌, ◌%◌, ◌^◌, leb, eqb}

pub data Kind : Type 0 where
  no_operation : Kind
  unassigned : Kind
  triangle : Kind
  texture_rectangle : Kind
  fill_rectangle : Kind
  sync_load : Kind
  sync_tile : Kind
  sync_pipe : Kind
  sync_full : Kind
  load : Kind
  set_tile : Kind
  attribute : Kind
  free : Kind

abbrev pub between : ℕ → ℕ → ℕ → Bool
between low high n = leb low n && leb n high

abbrev pub among : ℕ → List ℕ → Bool
among n [] = false
among n (x ∷ xs) = eqb n x || among n xs

-- #107: "only 0x00 counts as no operation; the other 28 numbers" of 01's row of no operations "are named unassigned"
abbrev pub is_no_operation : ℕ → Bool
is_no_operation n = eqb n 0x00

abbrev pub is_unassigned : ℕ → Bool
is_unassigned n = (between 0x01 0x07 n || between 0x10 0x23 n) || eqb n 0x31

-- the row of the table that names a number. The rows name every number below 64; one of 64 or more, which no word has, counts as unassigned
unfoldable pub kind_of : ℕ → Kind
kind_of n =
    cond (is_no_operation n) no_operation
    (cond (is_unassigned n) unassigned
    (cond (between 0x08 0x0F n) triangle
    (cond (among n (0x24 ∷ 0x25 ∷ [])) texture_rectangle
    (cond (eqb n 0x36) fill_rectangle
    (cond (eqb n 0x26) sync_load
    (cond (eqb n 0x28) sync_tile
    (cond (eqb n 0x27) sync_pipe
    (cond (eqb n 0x29) sync_full
    (cond (among n (0x30 ∷ 0x33 ∷ 0x34 ∷ [])) load
    (cond (eqb n 0x35) set_tile
    (cond (among n (0x2A ∷ 0x2B ∷ 0x2C ∷ 0x2F ∷ 0x37 ∷ 0x38 ∷ 0x39 ∷ 0x3B ∷ 0x3C ∷ 0x3E ∷ 0x3F ∷ [])) attribute
    (cond (among n (0x2D ∷ 0x2E ∷ 0x32 ∷ 0x3A ∷ 0x3D ∷ [])) free
    unassigned))))))))))))

-- the rows that 01 calls draws
abbrev pub is_draw : Kind → Bool
is_draw no_operation = false
is_draw unassigned = false
is_draw triangle = true
is_draw texture_rectangle = true
is_draw fill_rectangle = true
is_draw sync_load = false
is_draw sync_tile = false
is_draw sync_pipe = false
is_draw sync_full = false
is_draw load = false
is_draw set_tile = false
is_draw attribute = false
is_draw free = false

-- bit k of n, for p = 2 ^ k
abbrev pub has_bit : ℕ → ℕ → Bool
has_bit p n = eqb (n / p % 2) 1

-- a command number among the bits of a number; its low six bits count
abbrev pub is_among : ℕ → ℕ → Bool
is_among numbers n = has_bit (2 ^ (n % 64)) numbers

-- bits 58, 57 and 56 of a triangle's first word are bits 2, 1 and 0 of its number
abbrev pub triangle_words : ℕ → ℕ
triangle_words n = 4 + cond (has_bit 4 n) 8 0 + cond (has_bit 2 n) 8 0 + cond (has_bit 1 n) 2 0

abbrev pub words_of_kind : Kind → ℕ → ℕ
words_of_kind no_operation n = 1
words_of_kind unassigned n = 1
words_of_kind triangle n = triangle_words n
words_of_kind texture_rectangle n = 2
words_of_kind fill_rectangle n = 1
words_of_kind sync_load n = 1
words_of_kind sync_tile n = 1
words_of_kind sync_pipe n = 1
words_of_kind sync_full n = 1
words_of_kind load n = 1
words_of_kind set_tile n = 1
words_of_kind attribute n = 1
words_of_kind free n = 1

-- the words of a command, by its number
unfoldable pub words_of : ℕ → ℕ
words_of n = words_of_kind (kind_of n) n
