-- Bytes written over memory: at each address that a test picks, a value that the address gives.
use Rattle.std.specs.Prelude.{ℕ, suc, Bool, cond, ◌&&◌, List, [], ◌∷◌, leb, ltb}

-- memory that starts at address a, with `value` at the addresses that `test` picks
unfoldable pub overlay : (ℕ → Bool) → (ℕ → ℕ) → ℕ → List ℕ → List ℕ
overlay test value a [] = []
overlay test value a (b ∷ memory) = cond (test a) (value a) b ∷ overlay test value (suc a) memory

-- the numbers from `first` up to, not including, `end`
abbrev pub within : ℕ → ℕ → ℕ → Bool
within first end a = leb first a && ltb a end
