-- Document 02, #108, and document 003: the commands of a Fast3DEX2 display list, by their words. Quotes without a name are of 02.
use Rattle.std.specs.Prelude.{ℕ, ◌+◌, ◌-◌, ◌*◌, ◌/◌, ◌%◌, ◌^◌, Bool, false, cond, not, ◌&&◌, ◌||◌, eqb, leb}
use Rattle.std.specs.Int.Bits.{bit_and, bit_or}
use Rattle.rdp_words.specs.Kinds.{between}
use Rattle.f3dex2.specs.declared.Due.{Due}
use Rattle.f3dex2.specs.declared.Due.TheVariants.{Command, FirstHalf, SecondHalf}
use Rattle.f3dex2.specs.declared.Setting.{Setting}

-- the number of a command: its first byte
abbrev pub first_byte : ℕ → ℕ
first_byte w = w / 2 ^ 56

-- the low 32 bits of a command: an address, a half-word, or mode bits
abbrev pub low_half : ℕ → ℕ
low_half w = w % 2 ^ 32

-- ---- the numbers that 02 names

pub data Role : Type 0 where
  straight : Role
  rectangle : Role
  modes : Role
  list : Role
  end : Role
  unnamed : Role

-- where no half-word is due. "0xE6-0xF0 and 0xF2-0xFF"; "0xE4 and 0xE5"; "0xE2 and 0xE3"; "0xDE"; "0xDF"; any other is "a number not named above", or one
-- of "0xE1 and 0xF1 .. out of place"
unfoldable pub role_of : ℕ → Role
role_of n =
    cond (between 0xE6 0xF0 n || between 0xF2 0xFF n) straight
    (cond (between 0xE4 0xE5 n) rectangle
    (cond (between 0xE2 0xE3 n) modes
    (cond (eqb n 0xDE) list
    (cond (eqb n 0xDF) end
    unnamed))))

-- ---- the words that are written

-- "the command of the low six bits, bits 63:62 zero, others kept"
abbrev pub command_word : ℕ → ℕ
command_word w = w % 2 ^ 62

-- "a second word from the half-words (low 32 bits) of the 0xE1 and 0xF1 commands that directly follow"
abbrev pub second_word : ℕ → ℕ → ℕ
second_word first w = first * 2 ^ 32 + low_half w

-- "one Set Other Modes of the whole setting, command byte 0x2F": the high word's low 24 bits follow that byte
abbrev pub modes_word : Setting → ℕ
modes_word s = 0x2F * 2 ^ 56 + s.high % 2 ^ 24 * 2 ^ 32 + s.low

-- ---- the other modes

-- "by 003's formula, count and shift". 003: nn is "(Number of mode-bits affected) - 1", ss is "32 - (Amount mode-bits are shifted by) - (Number of bits
-- affected)"
abbrev pub count_in : ℕ → ℕ
count_in w = w / 2 ^ 32 % 256 + 1

abbrev pub shift_code : ℕ → ℕ
shift_code w = w / 2 ^ 40 % 256

-- the bits from `shift` up, as many as the count, lie inside 32 bits
abbrev pub inside : ℕ → Bool
inside w = leb (shift_code w + count_in w) 32

-- 003: "LO & ~(((1 << n) - 1) << s) | d", of 32 bits
abbrev pub masked : ℕ → ℕ → ℕ → ℕ → ℕ
masked x shift count bits = bit_or (bit_and x (0xFFFFFFFF - (2 ^ count - 1) * 2 ^ shift)) bits

-- a word of the other modes after 0xE2 or 0xE3. Where shift and count are outside 32 bits, the command is refused, and nothing reads this
unfoldable pub modified : ℕ → ℕ → ℕ
modified x w = cond (inside w) (masked x (32 - (shift_code w + count_in w)) (count_in w) (low_half w)) x

-- "0xE2 and 0xE3 change the low and high word"; "0xEF sets it too"; after 0xE4 and 0xE5 the half-words are due, "0xE1 and 0xF1 .. directly follow"
abbrev pub setting_by : Due → Setting → ℕ → ℕ → Setting
setting_by Command s n w =
    record {
      high = cond (eqb n 0xEF) (w / 2 ^ 32 % 2 ^ 24) (cond (eqb n 0xE3) (modified s.high w) s.high);
      low = cond (eqb n 0xEF) (low_half w) (cond (eqb n 0xE2) (modified s.low w) s.low);
      due = cond (between 0xE4 0xE5 n) FirstHalf Command;
    }
setting_by FirstHalf s n w = record { high = s.high; low = s.low; due = SecondHalf (low_half w) }
setting_by (SecondHalf first) s n w = record { high = s.high; low = s.low; due = Command }

-- the setting after a command
unfoldable pub setting_after : Setting → ℕ → Setting
setting_after s w = setting_by s.due s (first_byte w) w

-- "The setting starts at zero"
abbrev pub setting_first : Setting
setting_first = record { high = 0; low = 0; due = Command }

-- ---- 0xDE, and what 23 refuses

-- 003: 00 or 01 in "DE [AA] 00 00 [BB BB BB BB]"
abbrev pub parameter : ℕ → ℕ
parameter w = w / 2 ^ 48 % 256

-- "an address .. whose top byte is not 0"
abbrev pub top_byte : ℕ → ℕ
top_byte w = w / 2 ^ 24 % 256

abbrev pub far : ℕ → Bool
far w = not (eqb (top_byte w) 0)

-- with 00
abbrev pub calls : ℕ → Bool
calls w = eqb (parameter w) 0

-- "a ninth call deep", with `depth` calls open; "an address in 0xDE or 0xFD to 0xFF whose top byte is not 0"; "a 0xDE parameter other than 00 and 01"; "a
-- shift and count outside 32 bits"
abbrev pub invalid : Role → ℕ → ℕ → ℕ → Bool
invalid straight depth n w = between 0xFD 0xFF n && far w
invalid rectangle depth n w = false
invalid modes depth n w = not (inside w)
invalid list depth n w = far w || (cond (calls w) (leb 8 depth) (not (eqb (parameter w) 1)))
invalid end depth n w = false
invalid unnamed depth n w = false
