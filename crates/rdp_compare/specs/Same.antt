-- Request #110, what it is not to differ: the same number and the same fields, by decoding.
use Rattle.std.specs.Prelude.{ℕ, List, [], ◌∷◌, ◌≡◌}
use Rattle.rdp_words.specs.Lengths.{suffix_of}
use Rattle.rdp_command.specs.Decode.{decode_of}

-- two commands decode to the same command (its number and its fields), and have the same suffix
abbrev pub SameCommand : List ℕ → List ℕ → Type 0
SameCommand c d = (decode_of c ≡ decode_of d) × (suffix_of c ≡ suffix_of d)

-- all paired commands do
abbrev pub AllSame : List (List ℕ) → List (List ℕ) → Type 0
AllSame [] ds = Unit {0}
AllSame (c ∷ cs) [] = Unit {0}
AllSame (c ∷ cs) (d ∷ ds) = SameCommand c d × AllSame cs ds
