-- The numbers of fields: whether they fit, and laid into a command's words.
use Rattle.std.specs.Prelude.{Bool, true, false, cond, ◌&&◌, List, [], ◌∷◌, ℕ, suc, ◌+◌, ◌-◌, ◌*◌, ◌%◌, ◌^◌, eqb, ltb, leb, ℤ, pos, negsuc}
use Rattle.std.specs.Int.{w64}
use Rattle.std.proofs.Common.{of_z}
use Rattle.rdp_command.specs.Layout.{Line, width}
use Rattle.rdp_command.specs.Fields.{Value, unsigned, signed}

-- a value as a number of 64 bits, a signed one in two's complement
abbrev pub number_of_value : Value → ℕ
number_of_value (unsigned n) = n
number_of_value (signed z) = of_z w64 z

-- a signed number of so many bits, where half is 2 to the bits less one: from - half to half - 1; negsuc n is - (n + 1)
abbrev pub fits_signed : ℕ → ℤ → Bool
fits_signed half (pos n) = ltb n half
fits_signed half (negsuc n) = leb (suc n) half

-- document 01, refusal 15: a value that does not exceed its bits
abbrev pub fits_line : Line → Value → Bool
fits_line l (unsigned n) = ltb n (2 ^ width l)
fits_line l (signed z) = fits_signed (2 ^ (width l - 1)) z

-- as many values as lines, each fitting its line
abbrev pub all_fit : List Line → List Value → Bool
all_fit [] [] = true
all_fit [] (v ∷ vs) = false
all_fit (l ∷ ls) [] = false
all_fit (l ∷ ls) (v ∷ vs) = fits_line l v && all_fit ls vs

-- the low bits of a number at the place of its line
abbrev pub at_line : Line → ℕ → ℕ
at_line l n = n % 2 ^ width l * 2 ^ l.low

-- word i of a command: the numbers at their lines, all other bits zero
abbrev pub at_lines : ℕ → List Line → List ℕ → ℕ
at_lines i [] ns = 0
at_lines i (l ∷ ls) [] = 0
at_lines i (l ∷ ls) (n ∷ ns) = cond (eqb l.word i) (at_line l n) 0 + at_lines i ls ns
