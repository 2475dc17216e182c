-- Demand 2, for both kinds of rectangle (#106): which bytes of memory and of texture memory are written, and by which act last.
use Rattle.std.specs.Prelude.{ℕ, Bool, false, not, ◌||◌, List, [], ◌∷◌, ◌++◌, ◌≡◌, T}
use Rattle.rdp_texels.specs.Texels.{some}
use Rattle.rdp_texels.specs.Load.{load_moves}
use Rattle.rdp_texels.specs.Copy.{copy_moves}
use Rattle.rdp_texels.specs.Written.{goes_to, stands_at}
use Rattle.rdp_block.specs.Block.{block_moves}
use Rattle.rdp_fill.specs.Fill.{covers}
use Rattle.rdp_draw.specs.Draw.{Act, nothing, other_draw, other_load, filling, copying, loading, blocking, Placed, acts_of}

-- an act writes the byte of memory at an address: a kept pixel has it
abbrev pub act_writes : ℕ → Act → Bool
act_writes a nothing = false
act_writes a (other_draw i) = false
act_writes a other_load = false
act_writes a (filling f) = covers f a
act_writes a (copying c) = some (stands_at a) (copy_moves c)
act_writes a (loading l) = false
act_writes a (blocking l) = false

-- an act loads a byte of texture memory
abbrev pub act_loads : ℕ → Act → Bool
act_loads b nothing = false
act_loads b (other_draw i) = false
act_loads b other_load = false
act_loads b (filling f) = false
act_loads b (copying c) = false
act_loads b (loading l) = some (goes_to b) (load_moves l)
act_loads b (blocking l) = some (goes_to b) (block_moves l)

-- one of some acts does
unfoldable pub some_act : (Act → Bool) → List Placed → Bool
some_act test [] = false
some_act test (p ∷ acts) = test p.act || some_act test acts

-- the last act of a list that does
pub record LastAct (test : Act → Bool) (list : List ℕ) (x : Act) : Type 0 where
  pub before : List Placed
  pub place : ℕ
  pub after : List Placed
  pub split : acts_of list ≡ before ++ record { place = place; act = x } ∷ after
  pub doing : T (test x)
  pub staying : T (not (some_act test after))
