-- Document 02, #106: texels moved between memory and texture memory, one after the other. A texel is two bytes.
use Rattle.std.specs.Prelude.{ℕ, zero, suc, ◌+◌, ◌-◌, ◌*◌, ◌/◌, ◌%◌, Bool, false, cond, not, ◌&&◌, ◌||◌, List, [], ◌∷◌, ◌++◌, eqb, leb, ltb, ℤ, pos, negsuc, get_or, set}
use Rattle.rdp_pixels.specs.Overlay.{within}

-- A whole number, which may be below 0, is the difference of two natural ones: `ahead` less `behind`.
abbrev pub ahead_of : ℤ → ℕ
ahead_of (pos n) = n
ahead_of (negsuc n) = 0

abbrev pub behind_of : ℤ → ℕ
behind_of (pos n) = 0
behind_of (negsuc n) = suc n

-- a texel moved: the address of its first byte in memory, the number of its first byte in texture memory before the turn (`ahead` less `behind`), and
-- whether its row is odd
pub record Move : Type 0 where
  pub address : ℕ
  pub ahead : ℕ
  pub behind : ℕ
  pub odd : Bool

-- the texel of row r and column c of a tile, r being `down` less `up` and c `right` less `left`: "byte 8·tmem + 8·line·r + 2·c"
abbrev pub texel : ℕ → ℕ → ℕ → ℕ → ℕ → ℕ → ℕ → Move
texel address tmem line down up right left =
    record {
      address = address;
      ahead = 8 * tmem + 8 * (line * down) + 2 * right;
      behind = 8 * (line * up) + 2 * left;
      odd = eqb ((down + up) % 2) 1;
    }

-- "texture image address + (row·width + column)·2", and likewise of a pixel of 16 bits; the field holds the width minus one
abbrev pub texel_address : ℕ → ℕ → ℕ → ℕ → ℕ
texel_address image width column row = image + (row * (width + 1) + column) * 2

-- "the byte number's bit 2 turned over": 4 more where the bit is 0, 4 less where it is 1
unfoldable pub turned : ℕ → ℕ
turned b = b + 4 - b / 4 % 2 * 8

-- "in odd rows"
abbrev pub in_row : Bool → ℕ → ℕ
in_row odd b = cond odd (turned b) b

abbrev pub texture_byte : Move → ℕ
texture_byte m = in_row m.odd (m.ahead - m.behind)

-- ---- refusals

-- 12: a byte of the texel is outside the memory of `len` bytes that starts at address `start`
abbrev pub outside_memory : ℕ → ℕ → Move → Bool
outside_memory start len m = not (within start (start + len) m.address && within start (start + len) (m.address + 1))

-- 18: "a texture byte below 0 or at 4,096 or above"
abbrev pub outside_texture : Move → Bool
outside_texture m = ltb m.ahead m.behind || leb 4096 (texture_byte m + 1)

unfoldable pub some : (Move → Bool) → List Move → Bool
some test [] = false
some test (m ∷ ms) = test m || some test ms

-- ---- moves in order: a later one wins

abbrev pub load_one : ℕ → List ℕ → List ℕ → Move → List ℕ
load_one start memory texture m =
    set (set texture (texture_byte m) (get_or memory (m.address - start) 0)) (texture_byte m + 1) (get_or memory (m.address - start + 1) 0)

-- texture memory after the moves, out of memory that starts at address `start`
unfoldable pub loaded : ℕ → List ℕ → List Move → List ℕ → List ℕ
loaded start memory [] texture = texture
loaded start memory (m ∷ ms) texture = loaded start memory ms (load_one start memory texture m)

abbrev pub copy_one : ℕ → List ℕ → List ℕ → Move → List ℕ
copy_one start texture memory m =
    set (set memory (m.address - start) (get_or texture (texture_byte m) 0)) (m.address - start + 1) (get_or texture (texture_byte m + 1) 0)

-- memory that starts at address `start` after the moves, out of texture memory
unfoldable pub copied : ℕ → List ℕ → List Move → List ℕ → List ℕ
copied start texture [] memory = memory
copied start texture (m ∷ ms) memory = copied start texture ms (copy_one start texture memory m)

-- ---- moves row by row

-- the moves of n numbers from k on, in order
unfoldable pub moves_over : ℕ → ℕ → (ℕ → List Move) → List Move
moves_over k zero f = []
moves_over k (suc n) f = f k ++ moves_over (suc k) n f

-- from the first to the last, both included; none where the last is below the first
abbrev pub moves_through : ℕ → ℕ → (ℕ → List Move) → List Move
moves_through first last f = moves_over first (suc last - first) f
