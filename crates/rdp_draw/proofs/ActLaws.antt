-- What drawing does goes by the acts of a list, and not by their places. Assumes nothing.
use Prim.Native.Nat.{ℕ, ◌+◌, ◌/◌}
use mathlib.Core.Bool.{cond, not}
use mathlib.Core.List.{List, [], ◌∷◌, ◌++◌}
use mathlib.Core.Logic.{◌⊎◌, ⊎_elim}
use mathlib.Core.Path.{◌≡◌, refl, sym, ap, ap₂, ◌∙◌}
use lib.Dec.{eqb}
use lib.ListN.{length}
use Rattle.rdp_words.specs.Kinds.{words_of}
use Rattle.rdp_words.specs.Lengths.{first_number}
use Rattle.rdp_words.proofs.Tests.{by-test}
use Rattle.rdp_command.specs.Decode.{decode_of, answer}
use Rattle.rdp_words.specs.Grounds.{Answer}
use Rattle.rdp_command.specs.declared.Command.{Command}
use Rattle.rdp_command.specs.Decode.{Decoded}
use Rattle.rdp_command.specs.Decode.{Whole, Refused}
use Rattle.rdp_command.proofs.SyncWordLaws.{sync-words}
use Rattle.rdp_hazards.specs.Syncs.{Sync, load_sync, tile_sync, pipe_sync, sync_number}
use Rattle.rdp_check.specs.Order.{Ground, first_of, placed}
use Rattle.rdp_check.specs.Commands.{commands_of}
use Rattle.rdp_check.specs.Registers.{no_registers, after_decoded}
use Rattle.rdp_check.specs.Check.{outcome_of}
use Rattle.rdp_check.specs.declared.Registers.{Registers}
use Rattle.rdp_check.proofs.OrderLaws.{then-accepted}
use Rattle.rdp_check.proofs.FirstLaws.{check-first}
use Rattle.rdp_draw.specs.Draw.{Act, nothing, other_draw, other_load, filling, copying, loading, blocking, Placed, act_of, act_of_decoded, with_act, acts_from, acts_of, act_refusals, act_grounds, texture_ground, draw_answer, Memories, acted, acted_all, drawn}

-- ---- acts without their places

abbrev acts_alone : List Placed → List Act
acts_alone [] = []
acts_alone (p ∷ acts) = p.act ∷ acts_alone acts

-- those of commands
abbrev pub with_alone : Act → List Act → List Act
with_alone nothing acts = acts
with_alone (other_draw i) acts = other_draw i ∷ acts
with_alone other_load acts = other_load ∷ acts
with_alone (filling f) acts = filling f ∷ acts
with_alone (copying c) acts = copying c ∷ acts
with_alone (loading l) acts = loading l ∷ acts
with_alone (blocking l) acts = blocking l ∷ acts

abbrev pub acts_among : Registers → List (List ℕ) → List Act
acts_among r [] = []
acts_among r (c ∷ cs) = with_alone (act_of_decoded r (decode_of c)) (acts_among (after_decoded r (decode_of c)) cs)

with-alone : (at : ℕ) (a : Act) (acts : List Placed) → acts_alone (with_act at a acts) ≡ with_alone a (acts_alone acts)
with-alone at nothing acts = refl
with-alone at (other_draw i) acts = refl
with-alone at other_load acts = refl
with-alone at (filling f) acts = refl
with-alone at (copying c) acts = refl
with-alone at (loading l) acts = refl
with-alone at (blocking l) acts = refl

among-from : (r : Registers) (at : ℕ) (cs : List (List ℕ)) → acts_alone (acts_from r at cs) ≡ acts_among r cs
unfolding acts_from
among-from r at [] = refl
among-from r at (c ∷ cs) =
    with-alone at (act_of_decoded r (decode_of c)) (acts_from (after_decoded r (decode_of c)) (at + words_of (first_number c)) cs) ∙
    ap (with_alone (act_of_decoded r (decode_of c))) (among-from (after_decoded r (decode_of c)) (at + words_of (first_number c)) cs)

-- a sync, whatever its other bits, is no act
silent : (y : Sync) (r : Registers) (d : Decoded) (c : Command) → act_of r c ≡ nothing → (d ≡ Whole c) ⊎ (d ≡ Refused (answer 3 0)) → act_of_decoded r d ≡ nothing
silent y r d c e h = ⊎_elim (λ whole. ap (act_of_decoded r) whole ∙ e) (λ cut. ap (act_of_decoded r) cut) h

pub sync-silent : (y : Sync) (r : Registers) (c : List ℕ) → first_number c ≡ sync_number y → act_of_decoded r (decode_of c) ≡ nothing
unfolding act_of
sync-silent load_sync r c e = silent load_sync r (decode_of c) _ refl (sync-words.0.any-bits c e)
sync-silent tile_sync r c e = silent tile_sync r (decode_of c) _ refl (sync-words.1.0.any-bits c e)
sync-silent pipe_sync r c e = silent pipe_sync r (decode_of c) _ refl (sync-words.1.1.any-bits c e)

-- ---- the number of the first refusal of acts

abbrev first_number_of : ℕ → ℕ → List Act → ℕ
first_number_of start len [] = 0
first_number_of start len (a ∷ acts) = first_of (act_refusals start len a) (first_number_of start len acts)

placed_first :
    (at : ℕ) (gs : List (Ground ℕ)) (hs : List (Ground Answer)) (other : Answer) →
    (first_of (placed at gs ++ hs) other).number ≡ first_of gs (first_of hs other).number
placed_first at [] hs other = refl
placed_first at (g ∷ gs) hs other = by-test g.holds (λ t. rw t) (λ f. rw f (placed_first at gs hs other))

number-alone : (start len : ℕ) (acts : List Placed) (words : ℕ) → (first_of (act_grounds start len acts) (answer 0 words)).number ≡ first_number_of start len (acts_alone acts)
unfolding act_grounds
number-alone start len [] words = refl
number-alone start len (p ∷ acts) words =
    placed_first p.place (act_refusals start len p.act) (act_grounds start len acts) (answer 0 words) ∙
    ap (first_of (act_refusals start len p.act)) (number-alone start len acts words)

-- ---- what acts leave

abbrev acted_alone : ℕ → List Act → Memories → Memories
acted_alone start [] m = m
acted_alone start (a ∷ acts) m = acted_alone start acts (acted start a m)

acted-alone : (start : ℕ) (acts : List Placed) (m : Memories) → acted_all start acts m ≡ acted_alone start (acts_alone acts) m
unfolding acted_all
acted-alone start [] m = refl
acted-alone start (p ∷ acts) m = acted-alone start acts (acted start p.act m)

-- ---- a list that passes the check

module _ (list : List ℕ) (passes : (outcome_of list).number ≡ 0) where
  abbrev among : List Act
  among = acts_among no_registers (commands_of list)

  alone : acts_alone (acts_of list) ≡ among
  alone = among-from no_registers 0 (commands_of list)

  drawn-number :
      (start len size : ℕ) → (draw_answer list start len size).number ≡ cond (not (eqb size 4096)) 16 (first_number_of start len among)
  unfolding draw_answer
  drawn-number start len size =
      let words : ℕ = length list / 8 in
      ap (λ (a : Answer). a.number) (then-accepted (check-first list) (texture_ground size ∷ act_grounds start len (acts_of list)) (answer 0 words) passes) ∙
      by-test (not (eqb size 4096)) (λ t. rw t)
      (λ f. rw f (number-alone start len (acts_of list) words ∙ ap (first_number_of start len) alone))

  drawn-acts : (start : ℕ) (m : Memories) → acted_all start (acts_of list) m ≡ acted_alone start among m
  drawn-acts start m = acted-alone start (acts_of list) m ∙ ap (λ (acts : List Act). acted_alone start acts m) alone

-- lists that pass the check and have the same acts are drawn alike: the same number, and the same bytes in both memories
module _ (s t : List ℕ) (s-passes : (outcome_of s).number ≡ 0) (t-passes : (outcome_of t).number ≡ 0)
    (same : acts_among no_registers (commands_of s) ≡ acts_among no_registers (commands_of t)) where
  pub same_number : (start len size : ℕ) → (draw_answer s start len size).number ≡ (draw_answer t start len size).number
  same_number start len size =
      drawn-number s s-passes start len size ∙
      ap (λ (acts : List Act). cond (not (eqb size 4096)) 16 (first_number_of start len acts)) same ∙
      sym (drawn-number t t-passes start len size)

  pub same-memories : (start : ℕ) (m : Memories) → drawn s start m ≡ drawn t start m
  unfolding drawn
  same-memories start m =
      let after : acted_all start (acts_of s) m ≡ acted_all start (acts_of t) m =
      drawn-acts s s-passes start m ∙ ap (λ (acts : List Act). acted_alone start acts m) same ∙ sym (drawn-acts t t-passes start m) in
      ap₂ (λ (n : ℕ) (x : Memories). cond (eqb n 0) x m) (same_number start (length m.memory) (length m.texture)) after
