-- Drawing accepts exactly where no refusal holds, and else answers the first in their order. Assumes nothing.
use mathlib.Core.List.{List, [], ◌∷◌, ◌++◌}
use mathlib.Core.Bool.{not}
use mathlib.Core.Logic.{inl, inr, ⊎_elim}
use mathlib.Core.Path.{◌≡◌, refl, sym, ap, subst}
use Prim.Native.Nat.{ℕ, ◌/◌}
use native.Mathlib.Omega.{arith}
use borrow.Author.Tests.{ne_eqb, eqb-false}
use lib.Dec.{T, eqb}
use lib.ListN.{length}
use Rattle.rdp_words.specs.Grounds.{Answer}
use Rattle.rdp_command.specs.Decode.{answer}
use Rattle.rdp_words.proofs.Tests.{false_of}
use Rattle.rdp_check.specs.Order.{Ground, placed, Among}
use Rattle.rdp_check.specs.Check.{check_refusals}
use Rattle.rdp_check.specs.Refusals as check
use Rattle.rdp_check.proofs.OrderLaws.{found, among-left, among-right, among-parts, among-placed, placed-among, answered}
use Rattle.rdp_check.proofs.FirstLaws.{check-numbered, to-order, from-order, no_zero}
use Rattle.rdp_texels.proofs.ActLaws.{never}
use Rattle.rdp_draw.specs.Draw.{Placed, acts_of, act_refusals, act_grounds, texture_ground, draw_grounds, draw_answer}
use Rattle.rdp_draw.specs.Refusals.{DrawHolds, at_check, at_texture, at_act, FirstDrawRefusal}
use Rattle.rdp_draw.proofs.DrawLaws.{act-numbered}

-- ---- the order has exactly the refusals that may hold

module _ (start len : ℕ) where
  to-acts :
      (before : List Placed) (d : Placed) (after : List Placed) (n : ℕ) → Among n (act_refusals start len d.act) →
      Among (answer n d.place) (act_grounds start len (before ++ d ∷ after))
  unfolding act_grounds
  to-acts [] d after n m =
      among-left (answer n d.place) (placed d.place (act_refusals start len d.act)) _ (among-placed n d.place (act_refusals start len d.act) m)
  to-acts (b ∷ before) d after n m =
      among-right (answer n d.place) (placed b.place (act_refusals start len b.act)) _ (to-acts before d after n m)

  -- the act that is refused
  record Refused (acts : List Placed) (n p : ℕ) : Type 0 where
    before : List Placed
    d : Placed
    after : List Placed
    split : acts ≡ before ++ d ∷ after
    refuses : Among n (act_refusals start len d.act)
    place : d.place ≡ p

  from-acts : (acts : List Placed) (n p : ℕ) → Among (answer n p) (act_grounds start len acts) → Refused acts n p
  unfolding act_grounds
  from-acts [] n p m = absurd m
  from-acts (d ∷ acts) n p m =
      ⊎_elim
      (λ a.
      let r = placed-among n p d.place (act_refusals start len d.act) a in
      record { before = []; d = d; after = acts; split = refl; refuses = r.0; place = r.1 })
      (λ b.
      let r = from-acts acts n p b in
      record {
        before = d ∷ r.before;
        d = r.d;
        after = r.after;
        split = ap (λ (x : List Placed). d ∷ x) r.split;
        refuses = r.refuses;
        place = r.place;
      })
      (among-parts (answer n p) (placed d.place (act_refusals start len d.act)) _ m)

module _ (list : List ℕ) (start len size : ℕ) where
  abbrev of_check : List (Ground Answer)
  of_check = check.grounds_of 4096 check_refusals list

  abbrev of_acts : List (Ground Answer)
  of_acts = act_grounds start len (acts_of list)

  abbrev of_others : List (Ground Answer)
  of_others = texture_ground size ∷ of_acts

  to-all : (n p : ℕ) → DrawHolds list start len size n p → Among (answer n p) (draw_grounds list start len size)
  to-all n p (at_check m q h) = among-left (answer m q) of_check of_others (to-order check_refusals list 4096 m q h)
  to-all n p (at_texture h) = among-right (answer 16 0) of_check of_others (inl (rw (ne_eqb _ _ h) tt, refl))
  to-all n p (at_act before d after m split r) =
      among-right (answer m d.place) of_check of_others
      (inr (subst (λ (x : List Placed). Among (answer m d.place) (act_grounds start len x)) (sym split) (to-acts start len before d after m r)))

  from-check : (n p : ℕ) → Among (answer n p) of_check → DrawHolds list start len size n p
  from-check n p m = at_check n p (from-order check_refusals list 4096 n p m)

  from-texture : (n p : ℕ) → T (not (eqb size 4096)) × (answer 16 0 ≡ answer n p) → DrawHolds list start len size n p
  from-texture n p h = subst (λ (a : Answer). DrawHolds list start len size a.number a.place) h.1 (at_texture (eqb-false _ _ (false_of _ h.0)))

  from-others : (n p : ℕ) → Among (answer n p) of_acts → DrawHolds list start len size n p
  from-others n p b =
      let r = from-acts start len (acts_of list) n p b in
      subst (DrawHolds list start len size n) r.place (at_act r.before r.d r.after n r.split r.refuses)

  from_all : (n p : ℕ) → Among (answer n p) (draw_grounds list start len size) → DrawHolds list start len size n p
  from_all n p m = ⊎_elim (from-check n p) (λ b. ⊎_elim (from-texture n p) (from-others n p) b) (among-parts (answer n p) of_check of_others m)

  not-zero : (n p : ℕ) → DrawHolds list start len size n p → n ≡ 0 → ⊥
  not-zero n p (at_check m q h) z = no_zero check_refusals list 4096 check-numbered m q h z
  not-zero n p (at_texture h) z = never 16 (omega arith) z
  not-zero n p (at_act before d after m split r) z = act-numbered start len d.act (subst (λ (k : ℕ). Among k (act_refusals start len d.act)) z r)

  -- drawing's answer accepts exactly where none of 1 to 12 and 16 to 18 holds, and is else the first in their order, at its place
  pub draw-first : FirstDrawRefusal list start len size (draw_answer list start len size)
  unfolding draw_answer
  draw-first =
      answered (DrawHolds list start len size) (draw_grounds list start len size) (length list / 8) to-all from_all (λ p h. not-zero 0 p h refl) _
      (found (draw_grounds list start len size) _)
