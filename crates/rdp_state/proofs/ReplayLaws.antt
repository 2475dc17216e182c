-- The registers after the commands of a list, as the loop of the replay meets them and as the outcome has them. Assumes nothing.
use Rattle.std.proofs.Common.{Bool, not, ◌||◌, List, [], ◌∷◌, ◌≡◌, refl, sym, ap, subst, ◌∙◌, ℕ, zero, suc, ◌+◌, ◌*◌, ◌/◌, ◌%◌, ◌≤◌, ◌<◌, le_refl, arith, lt-ltb, le-ltb, T, eqb, ltb, length, drop, replicate, Result, Ok, Err}
use Rattle.rdp_words.specs.Words.{word_at, number_in}
use Rattle.rdp_words.specs.Kinds.{words_of}
use Rattle.rdp_words.specs.Lengths.{first_number}
use Rattle.rdp_words.proofs.Tests.{by-test, false_of}
use Rattle.rdp_check.specs.Commands.{commands_of, rest_of, words_in}
use Rattle.rdp_check.specs.Registers.{no_registers}
use Rattle.rdp_check.specs.Check.{State, start, after_command, Refusals, own_refusals, sync_refusals, check_refusals, refusal_at, Judgement, settle, judge, judge_list, outcome_within, checked_in, check_of}
use Rattle.rdp_state.specs.RegisterWords.{words_after, registers_in}
use Rattle.rdp_state.specs.Resume.{waited_after}
use Rattle.rdp_state.specs.Replay.{up_to, storing, applying, adding, words_up_to, registers_up_to, waited_up_to, end_of, told_by}
use Rattle.rdp_check.specs.declared.Registers.{Registers}
use Rattle.rdp_check.specs.declared.Accepted.{Accepted}
use Rattle.rdp_check.specs.declared.Refused.{Refused}
use Rattle.rdp_words.specs.Grounds.{Answer}
use Rattle.rdp_words.proofs.PlaceLaws.{number_small, some_words}
use Rattle.rdp_words.proofs.KindLaws.{words-most}
use Rattle.rdp_check.proofs.ListLaws.{command_at, commands-at, command-number, command-word, commands-past}
use Rattle.rdp_check.proofs.JoinLaws.{command-some, words_inside}
use Rattle.rdp_check.proofs.AppendLaws.{judge-from}
use Rattle.rdp_check.proofs.OrderLaws.{all_give}
use Rattle.rdp_check.proofs.FirstLaws.{judge-gives}
use Rattle.rdp_state.proofs.RegisterLaws.{none-set, registers-up-to}

-- ---- the loop

-- what holds at the head of the loop: the words after the commands that are left are those after the list, and so are the cycles waited
pub record Replayed (list : List ℕ) (end : ℕ) (before : List ℕ) (waits : ℕ) (rest file : List ℕ) (waited at : ℕ) : Type 0 where
  pub within : at + words_in (commands_of rest) ≡ words_in (commands_of list)
  pub same : words_up_to end at file (commands_of rest) ≡ words_up_to end 0 before (commands_of list)
  pub sums : waited_up_to end at waited (commands_of rest) ≡ waited_up_to end 0 waits (commands_of list)

-- what the loop leaves
abbrev Leaves : List ℕ → ℕ → List ℕ → ℕ → List ℕ → ℕ → Type 0
Leaves list end before waits file waited =
    (file ≡ words_up_to end 0 before (commands_of list)) × (waited ≡ waited_up_to end 0 waits (commands_of list))

pub first : (list : List ℕ) (end : ℕ) (file : List ℕ) (waits : ℕ) → Replayed list end file waits list file waits 0
first list end file waits = record { within = omega arith; same = refl; sums = refl }

pub still : {A : Type 0} (after : A → List ℕ → A) (end at : ℕ) (a : A) (cs : List (List ℕ)) → end ≤ at → up_to after end at a cs ≡ a
unfolding up_to
still after end at a [] h = refl
still after end at a (c ∷ cs) h = rw (le-ltb _ _ h)

module _ {list : List ℕ} {end : ℕ} {before : List ℕ} {waits : ℕ} {rest file : List ℕ} {waited at : ℕ} (v : Replayed list end before waits rest file waited at) where
  pub ended : end ≤ at → Leaves list end before waits file waited
  ended h = (sym (still storing end at file (commands_of rest) h) ∙ v.same, sym (still adding end at waited (commands_of rest) h) ∙ v.sums)

  pub past : commands_of rest ≡ [] → Leaves list end before waits file waited
  unfolding up_to
  past none = (ap (words_up_to end at file) (sym none) ∙ v.same, ap (waited_up_to end at waited) (sym none) ∙ v.sums)

  -- a turn at a command
  module _ (c rest' : List ℕ) (steps : commands_of rest ≡ c ∷ commands_of rest') where
    all-words : at + (words_of (first_number c) + words_in (commands_of rest')) ≡ words_in (commands_of list)
    all-words = ap (λ (cs : List (List ℕ)). at + words_in cs) (sym steps) ∙ v.within

    pub few : at + words_of (first_number c) ≤ length list
    few = omega (arith, all-words, words_inside list)

    low : first_number c % 64 ≡ first_number c
    low = let h : first_number c < 64 = number_small (word_at c 0) in omega arith

    pub again :
        at < end → (file' : List ℕ) → file' ≡ words_after file (first_number c % 64) (word_at c 0) → (waited' : ℕ) →
        waited' ≡ waited_after waited (first_number c) → Replayed list end before waits rest' file' waited' (at + words_of (first_number c))
    unfolding up_to
    again more file' is-file waited' is-waited =
        record {
          within = omega (arith, all-words);
          same = rw (← v.same, is-file, low, steps, lt-ltb _ _ more);
          sums = rw (← v.sums, is-waited, steps, lt-ltb _ _ more);
        }

-- a turn at the command at a place of the list, which has the number n
module _ {list : List ℕ} {end : ℕ} {before : List ℕ} {waits : ℕ} {file : List ℕ} {waited at : ℕ} (v : Replayed list end before waits (drop (8 * at) list) file waited at) (n : ℕ) (is : n ≡ number_in (word_at list at)) where
  pub next-small : (at ≤ length list) × (1 ≤ words_of n) × (words_of n ≤ 22)
  next-small =
      (omega (arith, v.within, words_inside list), some_words list at n is, words-most n (rw is (number_small (word_at list at))))

  pub cut-short : length list / 8 < at + words_of n → Leaves list end before waits file waited
  cut-short cut = past v (commands-past list at n is cut)

  pub at-next :
      at + words_of n ≤ length list / 8 → at < end → (file' : List ℕ) → file' ≡ words_after file (n % 64) (word_at list at) → (waited' : ℕ) →
      waited' ≡ waited_after waited n → Replayed list end before waits (drop (8 * (at + words_of n)) list) file' waited' (at + words_of n)
  at-next whole more file' is-file waited' is-waited =
      let number = command-number list at n is whole in
      let word = command-word list at n is whole in
      subst (λ (m : ℕ). Replayed list end before waits (drop (8 * (at + words_of n)) list) file' waited' (at + words_of m)) number
      (again v (command_at list at n) (drop (8 * (at + words_of n)) list) (commands-at list at n is whole) more file'
      (is-file ∙ (λ i. words_after file (sym number i % 64) (sym word i))) waited' (is-waited ∙ ap (waited_after waited) (sym number)))

-- ---- the registers after the loop

abbrev pub final : List ℕ → ℕ → Registers
final list end = registers_up_to end 0 no_registers (commands_of list)

pub registers-final :
    (list : List ℕ) (end : ℕ) (file : List ℕ) → file ≡ words_up_to end 0 (replicate 32 0) (commands_of list) → registers_in file ≡ final list end
registers-final list end file e =
    ap registers_in e ∙ registers-up-to end 0 list 0 (replicate 32 0) refl ∙ ap (λ (r : Registers). registers_up_to end 0 r (commands_of list)) none-set

-- ---- the outcome

-- the commands before the place of an outcome leave the registers of its state
abbrev Left : State → ℕ → List (List ℕ) → Judgement → Type 0
Left s at cs o = registers_up_to o.place at s.registers cs ≡ o.state.registers

left-next :
    (s : State) (at : ℕ) (c : List ℕ) (cs : List (List ℕ)) (g : ℕ) (o : Judgement) → at < o.place →
    Left (after_command s c) (at + words_of (first_number c)) cs o → Left s at (c ∷ cs) (settle g at s o)
unfolding up_to after_command
left-next s at c cs zero o more l = rw (lt-ltb _ _ more) l
left-next s at c cs (suc g) o more l = rw (le-ltb at at (le_refl at))

left : (refusals : Refusals) (s : State) (at : ℕ) (cs : List (List ℕ)) (rest : List ℕ) → Left s at cs (judge refusals s at cs rest)
unfolding judge up_to
left refusals s at [] [] = refl
left refusals s at [] (b ∷ rest) = refl
left refusals s at (c ∷ cs) rest =
    let w = words_of (first_number c) in
    let o = judge refusals (after_command s c) (at + w) cs rest in
    let more : at < o.place = omega (arith, command-some c, judge-from refusals (after_command s c) (at + w) cs rest) in
    left-next s at c cs (refusal_at refusals s c) o more (left refusals (after_command s c) (at + w) cs rest)

-- what the check tells is of the outcome
told-checked :
    (list : List ℕ) (r : Result Accepted Refused) →
    told_by r ≡ (record { number = (checked_in list r).number; place = (checked_in list r).place }, (checked_in list r).hazards)
told-checked list (Ok a) = refl
told-checked list (Err r) = refl

pub told-is :
    (list : List ℕ) (r : Result Accepted Refused) (t : Answer × ℕ) → t ≡ told_by r → checked_in list r ≡ check_of list →
    t ≡ (record { number = (check_of list).number; place = (check_of list).place }, (check_of list).hazards)
told-is list r t is-t e = is-t ∙ told-checked list r ∙ (λ i. (record { number = (e i).number; place = (e i).place }, (e i).hazards))

-- 1 and 2 are refusals of the whole list, and none of a command
abbrev pub apart : ℕ → Bool
apart g = not (eqb g 1 || eqb g 2)

pub check-apart : (s : State) (c : List ℕ) → T (all_give apart (check_refusals s c))
unfolding own_refusals sync_refusals
check-apart s c = tt

pub end-at : (g p : ℕ) → T (apart g) → end_of g p ≡ p
end-at g p t = rw (false_of (eqb g 1 || eqb g 2) t)

-- the registers of a list's outcome
pub outcome-registers :
    (words : ℕ) (list : List ℕ) →
    let o = outcome_within words check_refusals list in
    final list (end_of o.number o.place) ≡ o.state.registers
unfolding outcome_within
outcome-registers words list =
    by-test (ltb (8 * words) (length list)) (λ t. rw t (still applying 0 0 no_registers (commands_of list) (le_refl 0)))
    (λ f.
    by-test (eqb (length list % 8) 0)
    (λ t.
    let o = judge_list check_refusals list in
    rw (f, t, end-at o.number o.place (judge-gives apart check_refusals check-apart tt tt start 0 (commands_of list) (rest_of list)))
    (left check_refusals start 0 (commands_of list) (rest_of list)))
    (λ g. rw (f, g) (still applying 0 0 no_registers (commands_of list) (le_refl 0))))
