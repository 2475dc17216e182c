-- Which answers the comparison gives, and how large their parts are. Assumes nothing.
use Rattle.std.proofs.Common.{ℕ, ◌+◌, ◌%◌, ◌≤◌, List, [], ◌∷◌, ◌≡◌, refl, sym, subst, ◌∙◌, arith, ltb-true, ltb-false, eqb-true, eqb, ltb, length}
use borrow.Author.Tests.{eqb-false}
use Rattle.rdp_words.specs.Kinds.{words_of}
use Rattle.rdp_words.specs.Lengths.{first_number}
use Rattle.rdp_words.proofs.Tests.{by-test}
use Rattle.rdp_words.specs.Grounds.{Answer}
use Rattle.rdp_check.specs.Commands.{commands_of, rest_of}
use Rattle.rdp_check.specs.Refusals.{is_some}
use Rattle.rdp_check.proofs.JoinLaws.{words_inside}
use Rattle.rdp_compare.specs.Entries.{pair_entries, compare_answer}
use Rattle.rdp_compare.specs.Part.{longer_from, rest_start}
use Rattle.rdp_compare.proofs.GroundLaws.{first_of_three, opened, both_answer, of-first, of-second, first-sound, not-decoded, no_room, enough}
use Rattle.rdp_compare.proofs.PairLaws.{entries-few}
use Rattle.rdp_compare.specs.Steps.{decode_answer}

abbrev Within : ℕ → ℕ → Answer → Type 0
Within number place a = (a.number ≤ number) × (a.place ≤ place)

three-bounds : (list : List ℕ) → Within 3 4096 (first_of_three list)
three-bounds list =
    by-test (ltb 32768 (length list)) (λ t. rw t (omega arith, omega arith))
    (λ f.
    let h : length list ≤ 32768 = ltb-false _ _ f in
    by-test (eqb (length list % 8) 0)
    (λ e.
    by-test (is_some (rest_of list)) (λ t. rw (f, e, t) (omega arith, omega (arith, words_inside list, h)))
    (λ g. rw (f, e, g) (omega arith, omega (arith, h))))
    (λ e. rw (f, e) (omega arith, omega (arith, h))))

ground-bounds : (list : List ℕ) → Within 3 4096 (decode_answer list)
ground-bounds list = subst (Within 3 4096) (sym (opened list)) (three-bounds list)

both-bounds : (first second : List ℕ) → Within 3 4096 (both_answer first second)
both-bounds first second =
    by-test (eqb (decode_answer first).number 0)
    (λ t. rw (sym (of-second first second refl (eqb-true _ _ t) refl)) (ground-bounds second))
    (λ f. rw (sym (of-first first second refl (eqb-false _ _ f))) (ground-bounds first))

-- 0, 1, 2, 3 or 14, at no more than 16,384
pub compare-bounds : (first second : List ℕ) (room : ℕ) → ((compare_answer first second room).number ≤ 14) × ((compare_answer first second room).place ≤ 16384)
compare-bounds first second room =
    by-test (eqb (both_answer first second).number 0)
    (λ t.
    let z = eqb-true _ _ t in
    let few = entries-few first second (first-sound first second refl z) in
    by-test (ltb room (length (pair_entries first second))) (λ u. rw (no_room first second room refl z refl (ltb-true _ _ u)) (omega arith, few))
    (λ u. rw (enough first second room refl z refl (ltb-false _ _ u)) (omega arith, few)))
    (λ f.
    let b = both-bounds first second in
    rw (not-decoded first second room refl (eqb-false _ _ f)) (omega (arith, b.0), omega (arith, b.1)))

longer-number : (end a b : ℕ) (cs ds : List (List ℕ)) → (longer_from end a b cs ds).number ≡ 0
unfolding longer_from
longer-number end a b [] [] = refl
longer-number end a b (c ∷ cs) [] = refl
longer-number end a b [] (d ∷ ds) = refl
longer-number end a b (c ∷ cs) (d ∷ ds) = longer-number end (a + words_of (first_number c)) (b + words_of (first_number d)) cs ds

-- the number is that of the comparison
pub rest-number : (first second : List ℕ) (room : ℕ) → (rest_start first second room).number ≡ (compare_answer first second room).number
unfolding rest_start
rest-number first second room =
    by-test (eqb (compare_answer first second room).number 0)
    (λ t. rw t (longer-number (length first) 0 0 (commands_of first) (commands_of second) ∙ sym (eqb-true _ _ t)))
    (λ f. rw f)
