-- Document 01, "Words and lengths": a list of bytes as commands, each the bytes of its words.
use Rattle.std.specs.Prelude.{ℕ, zero, suc, pred, ◌+◌, ◌*◌, cond, List, [], ◌∷◌, ◌++◌, eqb, take}
use Rattle.rdp_words.specs.Kinds.{words_of}
use Rattle.rdp_words.specs.Lengths.{first_number, whole_words}

-- the commands that begin after k bytes of a list: all that are whole, up to the end or to the first whose words are not all there
unfoldable pub commands_from : ℕ → List ℕ → List (List ℕ)
commands_from zero [] = []
commands_from (suc k) [] = []
commands_from zero (b ∷ bs) =
    cond (eqb (whole_words (b ∷ bs)) 0) [] (take (8 * whole_words (b ∷ bs)) (b ∷ bs) ∷ commands_from (pred (8 * whole_words (b ∷ bs))) bs)
commands_from (suc k) (b ∷ bs) = commands_from k bs

-- the bytes after those commands: none, or those of a command that runs past the end
unfoldable pub rest_from : ℕ → List ℕ → List ℕ
rest_from zero [] = []
rest_from (suc k) [] = []
rest_from zero (b ∷ bs) = cond (eqb (whole_words (b ∷ bs)) 0) (b ∷ bs) (rest_from (pred (8 * whole_words (b ∷ bs))) bs)
rest_from (suc k) (b ∷ bs) = rest_from k bs

abbrev pub commands_of : List ℕ → List (List ℕ)
commands_of = commands_from 0

abbrev pub rest_of : List ℕ → List ℕ
rest_of = rest_from 0

-- the words of commands
abbrev pub words_in : List (List ℕ) → ℕ
words_in [] = 0
words_in (c ∷ cs) = words_of (first_number c) + words_in cs

-- the bytes of commands, one after the other
abbrev pub joined : List (List ℕ) → List ℕ
joined [] = []
joined (c ∷ cs) = c ++ joined cs
