-- Worked examples: display lists, and what their walks come to.
use Rattle.std.specs.Prelude.{ℕ, List, [], ◌∷◌, length}
use Rattle.rdp_words.specs.Words.{bytes_of_words}
use Rattle.f3dex2.specs.Walk.{Walked}
use Rattle.f3dex2.specs.Translate.{walked}

-- the number, the place, the commands read and the words of a walk
pub record Result : Type 0 where
  pub number : ℕ
  pub place : ℕ
  pub read : ℕ
  pub words : List ℕ

abbrev pub result_of : Walked → Result
result_of r = record { number = r.number; place = r.place; read = length r.commands; words = r.words }

-- a memory of these words, walked from its start
pub record Example : Type 0 where
  pub list : List ℕ
  pub result : Result

abbrev pub refused : List ℕ → ℕ → ℕ → ℕ → List ℕ → Example
refused list number place read words = record { list = list; result = record { number = number; place = place; read = read; words = words } }

abbrev pub translated : List ℕ → ℕ → List ℕ → Example
translated list read words = refused list 0 0 read words

abbrev pub return : ℕ
return = 0xDF00000000000000

unfoldable pub walk_examples : List Example
walk_examples =
    -- straight commands
    translated (0xE700000000000000 ∷ 0xFF10013F00100000 ∷ return ∷ []) 3 (0x2700000000000000 ∷ 0x3F10013F00100000 ∷ [])
    -- a call, a return, and the end of the outermost list
    ∷ translated (0xDE00000000000018 ∷ 0xE700000000000000 ∷ return ∷ 0xE600000000000000 ∷ return ∷ []) 5 (0x2600000000000000 ∷ 0x2700000000000000 ∷ [])
    -- for good
    ∷ translated (0xDE01000000000018 ∷ 0xE700000000000000 ∷ return ∷ 0xE600000000000000 ∷ return ∷ []) 3 (0x2600000000000000 ∷ [])
    -- a texture rectangle with its half-words
    ∷ translated (0xE400000007000000 ∷ 0xE100000000100020 ∷ 0xF100000004000400 ∷ return ∷ []) 4 (0x2400000007000000 ∷ 0x0010002004000400 ∷ [])
    -- the render mode, 29 bits from bit 3 up, and then the cycle type, 2 bits from bit 20 up of the high word
    ∷ translated (0xE200001C00504240 ∷ 0xE3000A0100300000 ∷ return ∷ []) 3 (0x2F00000000504240 ∷ 0x2F30000000504240 ∷ [])
    -- 0xEF sets the whole, and 0xE2 clears what it changes
    ∷ translated (0xEF30000000000005 ∷ 0xE2001E0100000001 ∷ return ∷ []) 3 (0x2F30000000000005 ∷ 0x2F30000000000005 ∷ [])
    -- no command after the last; a number that is not named; a half-word that is missing, one beyond the memory, and one out of place
    ∷ refused (0xE700000000000000 ∷ []) 20 8 1 (0x2700000000000000 ∷ [])
    ∷ refused (0xE000000000000000 ∷ []) 22 0 0 []
    ∷ refused (0xE400000000000000 ∷ return ∷ []) 22 8 1 (0x2400000000000000 ∷ [])
    ∷ refused (0xE400000000000000 ∷ 0xE100000000000000 ∷ []) 20 16 2 (0x2400000000000000 ∷ [])
    ∷ refused (0xE100000000000000 ∷ []) 22 0 0 []
    -- a list that calls itself: the ninth call; a parameter 02; an address with a top byte; 29 bits from bit -1 up
    ∷ refused (0xDE00000000000000 ∷ []) 23 0 8 []
    ∷ refused (0xDE02000000000000 ∷ []) 23 0 0 []
    ∷ refused (0xFD10000004000090 ∷ []) 23 0 0 []
    ∷ refused (0xE200041C00000000 ∷ []) 23 0 0 []
    -- a list that goes to itself: the 4,097th command
    ∷ refused (0xDE01000000000000 ∷ []) 21 0 4096 []
    ∷ []

-- what the walks come to, and what they should
abbrev pub results : List Example → List Result
results [] = []
results (e ∷ es) = result_of (walked (bytes_of_words e.list) 0) ∷ results es

abbrev pub expected : List Example → List Result
expected [] = []
expected (e ∷ es) = e.result ∷ expected es
