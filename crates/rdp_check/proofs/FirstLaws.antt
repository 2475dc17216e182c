-- A list's judgement is the first of its refusals in their order; so the check accepts exactly where none of its refusals holds. Assumes nothing.
use mathlib.Core.Bool.{Bool, not}
use mathlib.Core.List.{List, [], ◌∷◌, ◌++◌}
use mathlib.Core.Logic.{inl, inr, ⊎_elim}
use mathlib.Core.Path.{◌≡◌, refl, sym, ap, subst, ◌∙◌}
use Prim.Native.Nat.{ℕ, zero, suc, ◌+◌, ◌*◌, ◌/◌, ◌%◌}
use native.Mathlib.Nat.{suc-ne-zero}
use native.Mathlib.Omega.{arith}
use borrow.Author.Tests.{ltb-true, eqb-true, eqb-false, lt-ltb, ne_eqb}
use lib.Dec.{T, eqb, ltb}
use lib.ListN.{length}
use Rattle.rdp_words.specs.Kinds.{words_of}
use Rattle.rdp_words.specs.Lengths.{first_number}
use Rattle.rdp_words.specs.Grounds.{Answer}
use Rattle.rdp_command.specs.Decode.{answer}
use Rattle.rdp_words.proofs.Tests.{by-test, true_of, false_of}
use Rattle.rdp_check.specs.Commands.{commands_of, rest_of, words_in}
use Rattle.rdp_check.specs.Order.{Ground, first_of, placed, Among, IsFirst}
use Rattle.rdp_check.specs.Check.{State, start, after_command, Refusals, own_refusals, sync_refusals, check_refusals, repair_refusals, no_refusals, Judgement, settle, judge, judge_list, outcome_within, check_of}
use Rattle.rdp_check.specs.Refusals.{state_after, CommandHolds, past_end, at_command, Holds, too_long, not_words, of_commands, Free, is_some, command_grounds, grounds_of, FirstRefusal}
use Rattle.rdp_check.proofs.OrderLaws.{Found, none, some, found, among-left, among-right, among-parts, none-among, among-placed, placed-among, refused_at, placed_first, all_give, among-gives, first_gives, answered}
use Rattle.rdp_check.proofs.JoinLaws.{parsed, joined-whole, length-joined}

-- no refusal of a command has number 0
abbrev pub Numbered : Refusals → Type 0
Numbered refusals = (s : State) (c : List ℕ) → Among 0 (refusals s c) → ⊥

pub own-numbered : Numbered repair_refusals
unfolding own_refusals
own-numbered s c m = among-gives (λ n. not (eqb n 0)) 0 (repair_refusals s c) tt m

pub check-numbered : Numbered check_refusals
unfolding own_refusals sync_refusals
check-numbered s c m = among-gives (λ n. not (eqb n 0)) 0 (check_refusals s c) tt m

pub none-numbered : Numbered no_refusals
none-numbered s c m = m

-- ---- bytes that are left

pub some_bytes : (bs : List ℕ) → (bs ≡ [] → ⊥) → T (is_some bs)
some_bytes [] h = h refl
some_bytes (b ∷ bs) h = tt

pub bytes-some : (bs : List ℕ) → T (is_some bs) → bs ≡ [] → ⊥
bytes-some [] t e = t
bytes-some (b ∷ bs) t e = suc-ne-zero (length bs) (ap length e)

-- what cannot be left is not there
pub no_bytes : (bs : List ℕ) → ((bs ≡ [] → ⊥) → ⊥) → bs ≡ []
no_bytes [] h = refl
no_bytes (b ∷ bs) h = absurd (h (λ e. suc-ne-zero (length bs) (ap length e)))

-- ---- the judgement is the first in the order

abbrev pub answer_of : Judgement → Answer
answer_of o = answer o.number o.place

settled-refused : (g at : ℕ) (s : State) (next : Judgement) → answer_of (settle g at s next) ≡ refused_at g at (answer_of next)
settled-refused zero at s next = refl
settled-refused (suc g) at s next = refl

module _ (refusals : Refusals) where
  module _ (known : Numbered refusals) where
    judged-first :
        (s : State) (at : ℕ) (cs : List (List ℕ)) (rest : List ℕ) →
        answer_of (judge refusals s at cs rest) ≡ first_of (command_grounds refusals s at cs rest) (answer 0 (at + words_in cs))
    unfolding judge command_grounds
    judged-first s at [] [] = ap (answer 0) (omega arith)
    judged-first s at [] (b ∷ rest) = refl
    judged-first s at (c ∷ cs) rest =
        let w = words_of (first_number c) in
        let e : (at + w) + words_in cs ≡ at + (w + words_in cs) = omega arith in
        let next = judge refusals (after_command s c) (at + w) cs rest in
        let more = command_grounds refusals (after_command s c) (at + w) cs rest in
        settled-refused (first_of (refusals s c) 0) at s next ∙
        ap (refused_at (first_of (refusals s c) 0) at) (judged-first (after_command s c) (at + w) cs rest ∙ ap (λ (k : ℕ). first_of more (answer 0 k)) e) ∙
        sym (placed_first at more (answer 0 (at + (w + words_in cs))) (refusals s c) (known s c))

    outcome-first :
        (words : ℕ) (list : List ℕ) →
        answer_of (outcome_within words refusals list) ≡ first_of (grounds_of words refusals list) (answer 0 (words_in (commands_of list)))
    unfolding outcome_within grounds_of
    outcome-first words list =
        let cs = commands_of list in
        let e : 0 + words_in cs ≡ words_in cs = omega arith in
        by-test (ltb (8 * words) (length list)) (λ t. rw t)
        (λ f.
        by-test (eqb (length list % 8) 0)
        (λ t.
        rw (f, t)
        (judged-first start 0 cs (rest_of list) ∙ ap (λ (k : ℕ). first_of (command_grounds refusals start 0 cs (rest_of list)) (answer 0 k)) e))
        (λ g. rw (f, g)))

  -- ---- the order has exactly the refusals that may hold

  to-command :
      (s : State) (at : ℕ) (before : List (List ℕ)) (c : List ℕ) (after : List (List ℕ)) (rest : List ℕ) (n : ℕ) →
      Among n (refusals (state_after s before) c) → Among (answer n (at + words_in before)) (command_grounds refusals s at (before ++ c ∷ after) rest)
  unfolding command_grounds
  to-command s at [] c after rest n m =
      let e : at ≡ at + 0 = omega arith in
      subst (λ (p : ℕ). Among (answer n p) (command_grounds refusals s at (c ∷ after) rest)) e
      (among-left (answer n at) (placed at (refusals s c)) _ (among-placed n at (refusals s c) m))
  to-command s at (b ∷ before) c after rest n m =
      let w = words_of (first_number b) in
      let e : (at + w) + words_in before ≡ at + (w + words_in before) = omega arith in
      among-right (answer n (at + (w + words_in before))) (placed at (refusals s b)) _
      (subst (λ (p : ℕ). Among (answer n p) (command_grounds refusals (after_command s b) (at + w) (before ++ c ∷ after) rest)) e
      (to-command (after_command s b) (at + w) before c after rest n m))

  to_end :
      (s : State) (at : ℕ) (cs : List (List ℕ)) (rest : List ℕ) → T (is_some rest) →
      Among (answer 3 (at + words_in cs)) (command_grounds refusals s at cs rest)
  unfolding command_grounds
  to_end s at [] rest t = let e : at ≡ at + 0 = omega arith in inl (t, ap (answer 3) e)
  to_end s at (c ∷ cs) rest t =
      let w = words_of (first_number c) in
      let e : (at + w) + words_in cs ≡ at + (w + words_in cs) = omega arith in
      among-right (answer 3 (at + (w + words_in cs))) (placed at (refusals s c)) _
      (subst (λ (p : ℕ). Among (answer 3 p) (command_grounds refusals (after_command s c) (at + w) cs rest)) e (to_end (after_command s c) (at + w) cs rest t))

  -- where in a list's commands a refusal holds
  data Located (s : State) (at : ℕ) (cs : List (List ℕ)) (rest : List ℕ) (n p : ℕ) : Type 0 where
    cut : n ≡ 3 → T (is_some rest) → p ≡ at + words_in cs → Located s at cs rest n p
    command :
        (before : List (List ℕ)) (c : List ℕ) (after : List (List ℕ)) →
        cs ≡ before ++ c ∷ after → Among n (refusals (state_after s before) c) → p ≡ at + words_in before → Located s at cs rest n p

  located-next :
      (s : State) (at : ℕ) (c : List ℕ) (cs : List (List ℕ)) (rest : List ℕ) (n p : ℕ) →
      Located (after_command s c) (at + words_of (first_number c)) cs rest n p → Located s at (c ∷ cs) rest n p
  located-next s at c cs rest n p (cut z t e) = cut z t (omega arith)
  located-next s at c cs rest n p (command before d after e m q) = command (c ∷ before) d after (ap (λ (x : List (List ℕ)). c ∷ x) e) m (omega arith)

  located :
      (s : State) (at : ℕ) (cs : List (List ℕ)) (rest : List ℕ) (n p : ℕ) → Among (answer n p) (command_grounds refusals s at cs rest) →
      Located s at cs rest n p
  unfolding command_grounds
  located s at [] rest n p (inl h) =
      let e : at ≡ p = ap (λ (a : Answer). a.place) h.1 in
      cut (sym (ap (λ (a : Answer). a.number) h.1)) h.0 (omega arith)
  located s at [] rest n p (inr m) = absurd m
  located s at (c ∷ cs) rest n p m =
      ⊎_elim
      (λ a.
      let r = placed-among n p at (refusals s c) a in
      let e : at ≡ p = r.1 in
      command [] c cs refl r.0 (omega arith))
      (λ b. located-next s at c cs rest n p (located (after_command s c) (at + words_of (first_number c)) cs rest n p b))
      (among-parts (answer n p) (placed at (refusals s c)) _ m)

  module _ (list : List ℕ) where
    abbrev cs : List (List ℕ)
    cs = commands_of list

    abbrev order : List (Ground Answer)
    order = command_grounds refusals start 0 cs (rest_of list)

    to-commands : (n p : ℕ) → CommandHolds refusals list n p → Among (answer n p) order
    to-commands n p (past_end h) =
        let e : 0 + words_in cs ≡ words_in cs = omega arith in
        subst (λ (k : ℕ). Among (answer 3 k) order) e (to_end start 0 cs (rest_of list) (some_bytes (rest_of list) h))
    to-commands n p (at_command before c after number split m) =
        let e : 0 + words_in before ≡ words_in before = omega arith in
        subst (λ (k : ℕ). Among (answer number k) order) e
        (subst (λ (x : List (List ℕ)). Among (answer number (0 + words_in before)) (command_grounds refusals start 0 x (rest_of list))) (sym split)
        (to-command start 0 before c after (rest_of list) number m))

    at_place : (n p m q : ℕ) → m ≡ n → q ≡ p → CommandHolds refusals list m q → CommandHolds refusals list n p
    at_place n p m q e f h = subst (λ (k : ℕ). CommandHolds refusals list n k) f (subst (λ (k : ℕ). CommandHolds refusals list k q) e h)

    from-located : (n p : ℕ) → Located start 0 cs (rest_of list) n p → CommandHolds refusals list n p
    from-located n p (cut z t e) = at_place n p 3 (words_in cs) (sym z) (omega arith) (past_end (bytes-some (rest_of list) t))
    from-located n p (command before c after split m e) = at_place n p n (words_in before) refl (omega arith) (at_command before c after n split m)

    from-commands : (n p : ℕ) → Among (answer n p) order → CommandHolds refusals list n p
    from-commands n p m = from-located n p (located start 0 cs (rest_of list) n p m)

    module _ (known : Numbered refusals) where
      pub no-zero-command : (n p : ℕ) → CommandHolds refusals list n p → n ≡ 0 → ⊥
      no-zero-command n p (past_end h) z = suc-ne-zero 2 z
      no-zero-command n p (at_command before c after number split m) z =
          known (state_after start before) c (subst (λ (k : ℕ). Among k (refusals (state_after start before) c)) z m)

      pub commands-first : IsFirst (CommandHolds refusals list) order (words_in cs) (judge_list refusals list).number (judge_list refusals list).place
      commands-first =
          let e : 0 + words_in cs ≡ words_in cs = omega arith in
          answered (CommandHolds refusals list) order (words_in cs) to-commands from-commands (λ p h. no-zero-command 0 p h refl)
          (answer_of (judge_list refusals list))
          (subst (Found order (answer 0 (words_in cs)))
          (sym (judged-first known start 0 cs (rest_of list) ∙ ap (λ (k : ℕ). first_of order (answer 0 k)) e)) (found order (answer 0 (words_in cs))))

      -- a list whose commands are free of refusals is judged so
      pub judge-free : Free refusals list → (judge_list refusals list).number ≡ 0
      judge-free free =
          by-test (eqb (judge_list refusals list).number 0) (eqb-true _ _) (λ f. absurd (free _ _ (commands-first.refused (eqb-false _ _ f))))

    module _ (words : ℕ) where
      pub to-order : (n p : ℕ) → Holds words refusals list n p → Among (answer n p) (grounds_of words refusals list)
      unfolding grounds_of
      to-order n p (too_long h) = inl (rw (lt-ltb _ _ h) tt, refl)
      to-order n p (not_words h) = inr (inl (rw (ne_eqb _ _ h) tt, refl))
      to-order n p (of_commands m q h) = inr (inr (to-commands m q h))

      of-list : (n p m q : ℕ) → answer m q ≡ answer n p → Holds words refusals list m q → Holds words refusals list n p
      of-list n p m q e h = subst (λ (a : Answer). Holds words refusals list a.number a.place) e h

      pub from-order : (n p : ℕ) → Among (answer n p) (grounds_of words refusals list) → Holds words refusals list n p
      unfolding grounds_of
      from-order n p (inl h) = of-list n p 1 words h.1 (too_long (ltb-true _ _ (true_of _ h.0)))
      from-order n p (inr (inl h)) = of-list n p 2 (length list / 8) h.1 (not_words (eqb-false _ _ (false_of _ h.0)))
      from-order n p (inr (inr m)) = of_commands n p (from-commands n p m)

      -- where no refusal holds the words of the commands are those of the list
      words-of : (CommandHolds refusals list 3 (words_in cs) → ⊥) → words_in cs ≡ length list / 8
      words-of h =
          let e : rest_of list ≡ [] = no_bytes (rest_of list) (λ r. h (past_end r)) in
          omega (arith, length-joined cs (parsed list).alone, ap length (joined-whole list e))

      at-end :
          (a : Answer) → Found (grounds_of words refusals list) (answer 0 (words_in cs)) a → Found (grounds_of words refusals list) (answer 0 (length list / 8)) a
      at-end a (none h e) =
          none h
          (e ∙
          ap (answer 0)
          (words-of (λ r. none-among (answer 3 (words_in cs)) (grounds_of words refusals list) h (to-order 3 (words_in cs) (of_commands 3 (words_in cs) r)))))
      at-end a (some f) = some f

      module _ (known : Numbered refusals) where
        pub no_zero : (n p : ℕ) → Holds words refusals list n p → n ≡ 0 → ⊥
        no_zero n p (too_long h) z = suc-ne-zero 0 z
        no_zero n p (not_words h) z = suc-ne-zero 1 z
        no_zero n p (of_commands m q h) z = no-zero-command known m q h z

        -- a list of at most so many words: its judgement accepts exactly where none of 1 to 3 and of these refusals of a command holds, and is else the
        -- first in their order, at its place
        pub judge-first : FirstRefusal words refusals list (outcome_within words refusals list).number (outcome_within words refusals list).place
        judge-first =
            answered (Holds words refusals list) (grounds_of words refusals list) (length list / 8) to-order from-order (λ p h. no_zero 0 p h refl)
            (answer_of (outcome_within words refusals list))
            (at-end _
            (subst (Found (grounds_of words refusals list) (answer 0 (words_in cs))) (sym (outcome-first known words list))
            (found (grounds_of words refusals list) _)))

-- ---- the numbers that there are

pub settled-gives : (f : ℕ → Bool) (g at : ℕ) (s : State) (next : Judgement) → T (f g) → T (f next.number) → T (f (settle g at s next).number)
settled-gives f zero at s next t u = u
settled-gives f (suc g) at s next t u = t

-- a test that passes for 0, for 3 and for all refusals of a command passes for a judgement's number; and, for 1 and 2 too, for
-- those of an outcome and of all refusals that hold
module _ (f : ℕ → Bool) (refusals : Refusals) (all : (s : State) (c : List ℕ) → T (all_give f (refusals s c))) (at_none : T (f 0)) (at-three : T (f 3)) where
  pub judge-gives : (s : State) (at : ℕ) (cs : List (List ℕ)) (rest : List ℕ) → T (f (judge refusals s at cs rest).number)
  unfolding judge
  judge-gives s at [] [] = at_none
  judge-gives s at [] (b ∷ rest) = at-three
  judge-gives s at (c ∷ cs) rest =
      settled-gives f (first_of (refusals s c) 0) at s _ (first_gives f (refusals s c) 0 (all s c) at_none)
      (judge-gives (after_command s c) (at + words_of (first_number c)) cs rest)

  pub outcome-gives : T (f 1) → T (f 2) → (words : ℕ) (list : List ℕ) → T (f (outcome_within words refusals list).number)
  unfolding outcome_within
  outcome-gives at_one at-two words list =
      by-test (ltb (8 * words) (length list)) (λ t. rw t at_one)
      (λ g.
      by-test (eqb (length list % 8) 0) (λ t. rw (g, t) (judge-gives start 0 (commands_of list) (rest_of list))) (λ h. rw (g, h) at-two))

  command-gives : (list : List ℕ) (n p : ℕ) → CommandHolds refusals list n p → T (f n)
  command-gives list n p (past_end h) = at-three
  command-gives list n p (at_command before c after number e m) =
      among-gives f number (refusals (state_after start before) c) (all (state_after start before) c) m

  pub holds-gives : T (f 1) → T (f 2) → (words : ℕ) (list : List ℕ) (n p : ℕ) → Holds words refusals list n p → T (f n)
  holds-gives at_one at-two words list n p (too_long h) = at_one
  holds-gives at_one at-two words list n p (not_words h) = at-two
  holds-gives at_one at-two words list n p (of_commands m q h) = command-gives list m q h

-- the check: none of 1 to 9 and 19
pub check-first : (list : List ℕ) → FirstRefusal 4096 check_refusals list (check_of list).number (check_of list).place
check-first list = judge-first check_refusals list 4096 check-numbered

-- no refusal of a command: 1 to 3
pub read_first : (words : ℕ) (list : List ℕ) → FirstRefusal words no_refusals list (outcome_within words no_refusals list).number (outcome_within words no_refusals list).place
read_first words list = judge-first no_refusals list words none-numbered
