-- Which answers the check gives, and how large their parts are. Assumes nothing.
use Prim.Native.Nat.{ℕ, zero, suc, ◌+◌, ◌*◌, ◌%◌, ◌≤◌, ◌<◌}
use mathlib.Core.Bool.{Bool, true, ◌&&◌}
use mathlib.Core.List.{List, [], ◌∷◌}
use native.Mathlib.Omega.{arith}
use borrow.Author.Tests.{eqb-true, ltb-true, ltb-false}
use lib.Dec.{T, eqb, ltb}
use lib.ListN.{length}
use Rattle.rdp_words.specs.Kinds.{among, words_of}
use Rattle.rdp_words.specs.Lengths.{first_number}
use Rattle.rdp_words.proofs.Tests.{both, true_of, by-test}
use Rattle.rdp_check.specs.Commands.{commands_of, rest_of, words_in}
use Rattle.rdp_check.specs.Check.{State, start, Refusals, own_refusals, sync_refusals, check_refusals, Judgement, settle, after_command, refusal_at, judge, outcome_within, check_of}
use Rattle.rdp_check.specs.Refusals.{Holds}
use Rattle.rdp_check.proofs.OrderLaws.{all_give}
use Rattle.rdp_check.proofs.FirstLaws.{outcome-gives, holds-gives}
use Rattle.rdp_check.proofs.JoinLaws.{words_inside}

-- ---- the numbers that there are

-- the numbers of the check's answers
abbrev pub check_numbers : List ℕ
check_numbers = 0 ∷ 1 ∷ 2 ∷ 3 ∷ 4 ∷ 5 ∷ 6 ∷ 7 ∷ 8 ∷ 9 ∷ 19 ∷ []

pub check-known : (s : State) (c : List ℕ) → T (all_give (λ n. among n check_numbers) (check_refusals s c))
unfolding own_refusals sync_refusals
check-known s c = tt

pub check-numbers : (list : List ℕ) → T (among (check_of list).number check_numbers)
check-numbers list = outcome-gives (λ n. among n check_numbers) check_refusals check-known tt tt tt tt 4096 list

pub check-holds : (list : List ℕ) (n p : ℕ) → Holds 4096 check_refusals list n p → T (among n check_numbers)
check-holds list = holds-gives (λ n. among n check_numbers) check_refusals check-known tt tt tt tt 4096 list

-- a number of a list is below what all of them are below
abbrev pub all_below : ℕ → List ℕ → Bool
all_below b [] = true
all_below b (x ∷ xs) = ltb x b && all_below b xs

pub among_below : (b n : ℕ) (xs : List ℕ) → T (all_below b xs) → T (among n xs) → n < b
among_below b n [] t m = absurd m
among_below b n (x ∷ xs) t m =
    let r = both (ltb x b) (all_below b xs) t in
    by-test (eqb n x) (λ e. rw (eqb-true n x e) (ltb-true _ _ (true_of _ r.0))) (λ f. among_below b n xs r.1 (rw f at m))

-- ---- places

settled-place : (g at words : ℕ) (s : State) (next : Judgement) → next.place ≤ at + words → (settle g at s next).place ≤ at + words
settled-place zero at words s next h = h
settled-place (suc g) at words s next h = omega arith

judge-place : (refusals : Refusals) (s : State) (at : ℕ) (cs : List (List ℕ)) (rest : List ℕ) → (judge refusals s at cs rest).place ≤ at + words_in cs
unfolding judge
judge-place refusals s at [] [] = omega arith
judge-place refusals s at [] (b ∷ rest) = omega arith
judge-place refusals s at (c ∷ cs) rest =
    settled-place (refusal_at refusals s c) at (words_of (first_number c) + words_in cs) s _
    (omega (arith, judge-place refusals (after_command s c) (at + words_of (first_number c)) cs rest))

-- the place is within the words allowed
pub place-most : (words : ℕ) (refusals : Refusals) (list : List ℕ) → (outcome_within words refusals list).place ≤ words
unfolding outcome_within
place-most words refusals list =
    by-test (ltb (8 * words) (length list)) (λ t. rw t (omega arith))
    (λ f.
    let short : length list ≤ 8 * words = ltb-false _ _ f in
    by-test (eqb (length list % 8) 0)
    (λ t. rw (f, t) (omega (arith, judge-place refusals start 0 (commands_of list) (rest_of list), words_inside list)))
    (λ g. rw (f, g) (omega arith)))
