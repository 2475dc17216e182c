-- Documents 01 and 02 (#106), the grounds of drawing and their order: when each holds, and which of those that hold is the first.
use Rattle.std.specs.Prelude.{ℕ, ◌/◌, List, ◌∷◌, ◌++◌, ◌≡◌, length}
use Rattle.rdp_words.specs.Grounds.{Answer}
use Rattle.rdp_check.specs.Order.{Among, IsFirst}
use Rattle.rdp_check.specs.Check.{check_refusals}
use Rattle.rdp_check.specs.Refusals as check
use Rattle.rdp_draw.specs.Draw.{Placed, acts_of, act_refusals, draw_grounds}

-- a refusal of a list, and its place
pub data DrawHolds (list : List ℕ) (start len size : ℕ) : ℕ → ℕ → Type 0 where
  -- 1 to 9 and 19: a refusal of the check
  at_check : (n p : ℕ) → check.Holds 4096 check_refusals list n p → DrawHolds list start len size n p
  -- 16: texture memory has not 4,096 bytes
  at_texture : (size ≡ 4096 → ⊥) → DrawHolds list start len size 16 0
  -- 10, 11, 17, 12 and 18, at an act's first word
  at_act :
      (before : List Placed) (p : Placed) (after : List Placed) (n : ℕ) →
      acts_of list ≡ before ++ p ∷ after → Among n (act_refusals start len p.act) → DrawHolds list start len size n p.place

-- an answer that accepts exactly where no refusal holds, and is else the first that holds, at its place
abbrev pub FirstDrawRefusal : List ℕ → ℕ → ℕ → ℕ → Answer → Type 0
FirstDrawRefusal list start len size r = IsFirst (DrawHolds list start len size) (draw_grounds list start len size) (length list / 8) r.number r.place
