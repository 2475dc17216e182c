-- Which answers drawing gives, and how large their parts are. Assumes nothing.
use Prim.Native.Nat.{ℕ, zero, suc, ◌+◌, ◌/◌, ◌≤◌}
use mathlib.Core.List.{List, [], ◌∷◌, ◌++◌}
use mathlib.Core.Path.{◌≡◌, sym, subst}
use native.Mathlib.Omega.{arith}
use borrow.Author.Tests.{eqb-true, eqb-false}
use lib.Dec.{T, eqb}
use lib.ListN.{length}
use Rattle.rdp_words.specs.Kinds.{among, words_of}
use Rattle.rdp_words.specs.Lengths.{first_number}
use Rattle.rdp_command.specs.Decode.{decode_of}
use Rattle.rdp_words.specs.Grounds.{Answer}
use Rattle.rdp_words.proofs.Tests.{by-test}
use Rattle.rdp_check.specs.Order.{Ground, first_of}
use Rattle.rdp_check.specs.Check.{check_refusals, check_of}
use Rattle.rdp_check.specs.Commands.{commands_of, words_in}
use Rattle.rdp_check.specs.Registers.{no_registers, after_decoded}
use Rattle.rdp_check.specs.declared.Registers.{Registers}
use Rattle.rdp_check.proofs.OrderLaws.{all_give, among-gives, refused_at, then-refused, then-accepted}
use Rattle.rdp_check.proofs.FirstLaws.{check-first}
use Rattle.rdp_check.proofs.JoinLaws.{words_inside}
use Rattle.rdp_check.proofs.BoundLaws.{check_numbers, check-holds, place-most}
use Rattle.rdp_draw.specs.Draw.{Act, nothing, other_draw, other_load, filling, copying, loading, blocking, act_of_decoded, Placed, with_act, acts_from, acts_of, act_refusals, act_grounds, texture_ground, draw_answer}
use Rattle.rdp_draw.specs.Seen.{first_refusal}
use Rattle.rdp_draw.specs.Refusals.{DrawHolds, at_check, at_texture, at_act}
use Rattle.rdp_draw.proofs.DrawLaws.{first_next}
use Rattle.rdp_draw.proofs.DrawnLaws.{draw-first}

-- the numbers of drawing's answers
abbrev pub draw_numbers : List ℕ
draw_numbers = check_numbers ++ 10 ∷ 11 ∷ 12 ∷ 16 ∷ 17 ∷ 18 ∷ []

among-front : (n : ℕ) (xs ys : List ℕ) → T (among n xs) → T (among n (xs ++ ys))
among-front n [] ys t = absurd t
among-front n (x ∷ xs) ys t = by-test (eqb n x) (λ e. rw e tt) (λ f. rw f (among-front n xs ys (rw f at t)))

act-known : (start len : ℕ) (a : Act) → T (all_give (λ n. among n draw_numbers) (act_refusals start len a))
unfolding act_refusals
act-known start len a = tt

known : (list : List ℕ) (start len size n p : ℕ) → DrawHolds list start len size n p → T (among n draw_numbers)
known list start len size n p (at_check m q h) = among-front m check_numbers (10 ∷ 11 ∷ 12 ∷ 16 ∷ 17 ∷ 18 ∷ []) (check-holds list m q h)
known list start len size n p (at_texture h) = tt
known list start len size n p (at_act before d after m e r) = among-gives (λ k. among k draw_numbers) m (act_refusals start len d.act)
    (act-known start len d.act) r

pub draw-numbers : (list : List ℕ) (start len size : ℕ) → T (among (draw_answer list start len size).number draw_numbers)
draw-numbers list start len size =
    by-test (eqb (draw_answer list start len size).number 0) (λ t. rw (eqb-true (draw_answer list start len size).number 0 t) tt)
    (λ f. known list start len size _ _ ((draw-first list start len size).refused (eqb-false _ _ f)))

-- ---- places

abbrev Within : ℕ → List Placed → Type 0
Within words [] = Unit {0}
Within words (d ∷ ds) = (d.place ≤ words) × Within words ds

within-act : (words at : ℕ) (a : Act) (ds : List Placed) → at ≤ words → Within words ds → Within words (with_act at a ds)
within-act words at nothing ds h w = w
within-act words at (other_draw i) ds h w = (h, w)
within-act words at other_load ds h w = (h, w)
within-act words at (filling f) ds h w = (h, w)
within-act words at (copying c) ds h w = (h, w)
within-act words at (loading l) ds h w = (h, w)
within-act words at (blocking l) ds h w = (h, w)

acts-within : (words : ℕ) (r : Registers) (at : ℕ) (cs : List (List ℕ)) → at + words_in cs ≤ words → Within words (acts_from r at cs)
unfolding acts_from
acts-within words r at [] h = tt
acts-within words r at (c ∷ cs) h =
    within-act words at (act_of_decoded r (decode_of c)) _ (omega arith)
    (acts-within words (after_decoded r (decode_of c)) (at + words_of (first_number c)) cs (omega arith))

refused-within : (g place words : ℕ) (next : Answer) → place ≤ words → next.place ≤ words → (refused_at g place next).place ≤ words
refused-within zero place words next h k = k
refused-within (suc g) place words next h k = h

first-within : (start len words : ℕ) (ds : List Placed) → Within words ds → (first_refusal start len words ds).place ≤ words
unfolding first_refusal act_grounds
first-within start len words [] w = omega arith
first-within start len words (d ∷ ds) w =
    subst (λ (a : Answer). a.place ≤ words) (sym (first_next start len words d ds))
    (refused-within (first_of (act_refusals start len d.act) 0) d.place words _ w.0 (first-within start len words ds w.1))

-- the place is within the 4,096 words that the check allows
module _ (list : List ℕ) (start len size : ℕ) where
  abbrev others : List (Ground Answer)
  others = texture_ground size ∷ act_grounds start len (acts_of list)

  pub draw-place : (draw_answer list start len size).place ≤ 4096
  unfolding draw_answer first_refusal
  draw-place =
      by-test (eqb (check_of list).number 0)
      (λ t.
      let e : (check_of list).number ≡ 0 = eqb-true _ _ t in
      let words : (check_of list).place ≡ length list / 8 = ((check-first list).accepted e).0 in
      let inside : 0 + words_in (commands_of list) ≤ length list / 8 = omega (arith, words_inside list) in
      let few : length list / 8 ≤ 4096 = omega (arith, words, place-most 4096 check_refusals list) in
      let acts : (first_refusal start len (length list / 8) (acts_of list)).place ≤ 4096 =
      omega (arith, few, first-within start len (length list / 8) (acts_of list) (acts-within (length list / 8) no_registers 0 (commands_of list) inside)) in
      subst (λ (a : Answer). a.place ≤ 4096) (sym (then-accepted (check-first list) others _ e))
      (by-test (eqb size 4096) (λ y. rw y acts) (λ n. rw n (omega arith))))
      (λ f.
      subst (λ (a : Answer). a.place ≤ 4096) (sym (then-refused (check-first list) others _ (eqb-false _ _ f)))
      (place-most 4096 check_refusals list))
