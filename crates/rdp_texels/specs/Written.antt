-- Document 02, #106: which bytes a texel's move writes, and which move is the last that writes a byte.
use Rattle.std.specs.Prelude.{ℕ, ◌+◌, Bool, not, ◌||◌, List, ◌∷◌, ◌++◌, ◌≡◌, T, eqb}
use Rattle.rdp_texels.specs.Texels.{Move, some, texture_byte}

-- number a is one of the two from b on
abbrev pub one_of_two : ℕ → ℕ → Bool
one_of_two a b = eqb a b || eqb a (b + 1)

-- a byte of the texel stands at address a of memory, and at byte b of texture memory
abbrev pub stands_at : ℕ → Move → Bool
stands_at a m = one_of_two a m.address

abbrev pub goes_to : ℕ → Move → Bool
goes_to b m = one_of_two b (texture_byte m)

-- the last of some moves that a test picks: "a later one wins", "the later one written stays"
pub record LastMove (test : Move → Bool) (ms : List Move) (m : Move) : Type 0 where
  pub before : List Move
  pub after : List Move
  pub split : ms ≡ before ++ m ∷ after
  pub picked : T (test m)
  pub staying : T (not (some test after))
