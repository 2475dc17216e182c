-- The cause of a refusal by 7, 8 or 9 is the latest command that set the mark which the refused one needs cleared. Assumes nothing.
use mathlib.Core.Bool.{Bool, true, false, cond, not, ◌&&◌, ◌||◌, true≢false, false≢true}
use mathlib.Core.List.{List, [], ◌∷◌, ◌++◌, append_assoc}
use mathlib.Core.Logic.{◌⊎◌, inl, inr, ⊎_elim}
use mathlib.Core.Path.{◌≡◌, refl, sym, ap, subst, ◌∙◌}
use Prim.Native.Nat.{ℕ, ◌+◌, ◌*◌, ◌/◌, ◌<◌, ◌≤◌}
use native.Mathlib.Omega.{arith}
use borrow.Author.Tests.{ne_eqb}
use lib.Dec.{T, eqb, eqb→eq}
use lib.ListN.{length, take, drop, length-append, length-drop}
use lib.Seq.{take_at, drop_at}
use Rattle.rdp_words.specs.Words.{word_at, number_in}
use Rattle.rdp_words.specs.Kinds.{between, has_bit, kind_of, is_among, words_of}
use Rattle.rdp_words.specs.Lengths.{first_number}
use Rattle.rdp_words.proofs.Tests.{both, true_of, false_of}
use Rattle.rdp_words.proofs.KindLaws.{among-by, draws-among}
use Rattle.rdp_words.proofs.WordLaws.{word-front}
use Rattle.rdp_words.proofs.PlaceLaws.{number_small, word-drop}
use Rattle.rdp_hazards.specs.Hazards.{required_of}
use Rattle.rdp_check.specs.Order.{Among}
use Rattle.rdp_check.specs.Commands.{commands_of, rest_of, words_in, joined}
use Rattle.rdp_hazards.specs.Marks.{Mark, mark_p, mark_d, draws, loads, reads_tile, NoneOf, Stands}
use Rattle.rdp_check.specs.Cause.{awaited, latest, cause_at, cause_of, IsCause}
use Rattle.rdp_check.specs.Check.{State, start, own_refusals, sync_refusals, check_refusals, judge_list, check_of}
use Rattle.rdp_check.specs.Refusals.{state_after, CommandHolds, past_end, at_command, Holds, too_long, not_words, of_commands}
use Rattle.rdp_check.specs.View.{refusals_by, Numbers, IsJudged}
use Rattle.rdp_hazards.proofs.HazardLaws.{at-state}
use Rattle.rdp_check.proofs.MarkLaws.{IsMark, is-P, is_T, is-D, is-G, exactly, state-low}
use Rattle.rdp_check.proofs.JoinLaws.{Alone, AllAlone, command-some, commands-joined, rest-joined, length-joined, words_append, joined-append, parsed}
use native.Mathlib.Nat.{lt_of_not-le}
use native.Mathlib.Decide.{dec_le}
use Rattle.rdp_check.proofs.ListLaws.{command_at, commands-at, command-number, rest-past}
use Rattle.rdp_check.proofs.OrderLaws.{among-parts}
use Rattle.rdp_check.proofs.FirstLaws.{Numbered, own-numbered, check-numbered, commands-first, check-first}

not-true : (b : Bool) → not b ≡ true → b ≡ false
not-true true e = absurd (false≢true e)
not-true false e = refl

not-false : (b : Bool) → not b ≡ false → T b
not-false true e = tt
not-false false e = absurd (true≢false e)

-- ---- the mark that a command needs cleared

cond-mark : (b : Bool) {x y : Mark} → IsMark x → IsMark y → IsMark (cond b x y)
cond-mark true a b = a
cond-mark false a b = b

awaited-mark : (n : ℕ) → IsMark (awaited n)
unfolding awaited
awaited-mark n = cond-mark (draws n) is-G (cond-mark (loads n) is-D (cond-mark (eqb n 0x35) is_T is-P))

-- a sync is missing only where that mark stands
abbrev waits : ℕ → ℕ → Bool
waits m n = eqb (required_of m n) 0 || has_bit (awaited n).bit m

or-other : (a b : Bool) → T (a || b) → T (not a) → T b
or-other true b t u = absurd u
or-other false b t u = t

awaited-stands : (m n : ℕ) → m < 16 → n < 64 → T (not (eqb (required_of m n) 0)) → T (has_bit (awaited n).bit m)
unfolding required_of awaited kind_of
awaited-stands m n hm hn = or-other (eqb (required_of m n) 0) _ (at-state waits tt m n hm hn)

-- the numbers that set it, as the code has them
numbers-load : Numbers 0x0019_0000_0000_0000 loads
numbers-load = among-by _ loads tt

numbers-tile : Numbers 0x0019_0030_0000_CC00 reads_tile
numbers-tile = among-by _ reads_tile tt

module _ (n : ℕ) (small : n < 64) (b : Bool) (is : b ≡ is_among 0x0040_0030_0000_FF00 n) where
  drawing : b ≡ draws n
  drawing = is ∙ draws-among n small

  pub awaits-load : b ≡ true → Numbers 0x0019_0000_0000_0000 (awaited n).sets
  unfolding awaited
  awaits-load t = rw (← drawing, t) numbers-load

  module _ (f : b ≡ false) where
    pub awaits-tile : n ≡ 0x35 → Numbers 0x0019_0030_0000_CC00 (awaited n).sets
    unfolding awaited
    awaits-tile e = rw (← drawing, f, e) numbers-tile

    pub awaits-draw : (n ≡ 0x35 → ⊥) → Numbers 0x0040_0030_0000_FF00 (awaited n).sets
    unfolding awaited
    awaits-draw ne = rw (← drawing, f, ne_eqb n 0x35 ne) (λ k h. draws-among k h ∙ either (loads n) k)
      where
        either : (c : Bool) (k : ℕ) → draws k ≡ (cond c mark_d mark_p).sets k
        either true k = refl
        either false k = refl

-- ---- the latest

latest-append :
    (these : ℕ → Bool) (other at : ℕ) (bs cs : List (List ℕ)) →
    latest these other at (bs ++ cs) ≡ latest these (latest these other at bs) (at + words_in bs) cs
unfolding latest
latest-append these other at [] cs = ap (λ (k : ℕ). latest these other k cs) (omega arith)
latest-append these other at (b ∷ bs) cs =
    let w = words_of (first_number b) in
    let e : (at + w) + words_in bs ≡ at + (w + words_in bs) = omega arith in
    latest-append these (cond (these (first_number b)) at other) (at + w) bs cs ∙
    ap (λ (k : ℕ). latest these (latest these (cond (these (first_number b)) at other) (at + w) bs) k cs) e

-- the same numbers below 64 have the same latest
pub latest-same :
    (f g : ℕ → Bool) → ((n : ℕ) → n < 64 → f n ≡ g n) → (other at : ℕ) (cs : List (List ℕ)) → latest f other at cs ≡ latest g other at cs
unfolding latest
latest-same f g e other at [] = refl
latest-same f g e other at (c ∷ cs) =
    ap (λ (b : Bool). latest f (cond b at other) (at + words_of (first_number c)) cs) (e (first_number c) (number_small (word_at c 0))) ∙
    latest-same f g e (cond (g (first_number c)) at other) (at + words_of (first_number c)) cs

-- a place at which one of these stands, with none of them after it
record Latest (these : ℕ → Bool) (at : ℕ) (cs : List (List ℕ)) (place : ℕ) : Type 0 where
  before : List (List ℕ)
  command : List ℕ
  after : List (List ℕ)
  split : cs ≡ before ++ command ∷ after
  at-command : place ≡ at + words_in before
  comes : T (these (first_number command))
  last : NoneOf these after

latest-later :
    (these : ℕ → Bool) (at : ℕ) (c : List ℕ) (cs : List (List ℕ)) (place : ℕ) → Latest these (at + words_of (first_number c)) cs place → Latest these at (c ∷ cs) place
latest-later these at c cs place l =
    record {
      before = c ∷ l.before;
      command = l.command;
      after = l.after;
      split = ap (λ (x : List (List ℕ)). c ∷ x) l.split;
      at-command = omega (arith, l.at-command);
      comes = l.comes;
      last = l.last;
    }

-- by whether the first of some commands is one of these, where none of the others is
latest-here :
    (these : ℕ → Bool) (other at : ℕ) (c : List ℕ) (cs : List (List ℕ)) (place : ℕ) → NoneOf these cs →
    (b : Bool) → these (first_number c) ≡ b → place ≡ cond b at other → Latest these at (c ∷ cs) place ⊎ (NoneOf these (c ∷ cs) × (place ≡ other))
latest-here these other at c cs place none true e is =
    let here : at ≡ at + 0 = omega arith in
    inl (record { before = []; command = c; after = cs; split = refl; at-command = is ∙ here; comes = rw e tt; last = none })
latest-here these other at c cs place none false e is = inr ((rw e tt, none), is)

latest-found :
    (these : ℕ → Bool) (other at : ℕ) (cs : List (List ℕ)) →
    Latest these at cs (latest these other at cs) ⊎ (NoneOf these cs × (latest these other at cs ≡ other))
unfolding latest
latest-found these other at [] = inr (tt, refl)
latest-found these other at (c ∷ cs) =
    let b = these (first_number c) in
    ⊎_elim (λ l. inl (latest-later these at c cs _ l)) (λ r. latest-here these other at c cs _ r.0 b refl r.1)
    (latest-found these (cond b at other) (at + words_of (first_number c)) cs)

-- ---- the latest that set a mark which stands

none_after : (these : ℕ → Bool) (bs : List (List ℕ)) (c : List ℕ) (cs : List (List ℕ)) → NoneOf these (bs ++ c ∷ cs) → NoneOf these cs
none_after these [] c cs h = h.1
none_after these (b ∷ bs) c cs h = none_after these bs c cs h.1

-- it is the latest of them, and nothing after it clears the mark
record Setter (k : Mark) (cs : List (List ℕ)) (place : ℕ) : Type 0 where
  latest-of : Latest k.sets 0 cs place
  uncleared : NoneOf k.clears latest-of.after

module _ (k : Mark) (other : ℕ) (cs : List (List ℕ)) (s : Stands k cs) where
  abbrev passed : ℕ
  passed = words_in s.before

  abbrev onward : ℕ
  onward = passed + words_of (first_number s.command)

  from-setter : latest k.sets other 0 cs ≡ latest k.sets passed onward s.after
  unfolding latest
  from-setter =
      let zero-add : 0 + passed ≡ passed = omega arith in
      let c = first_number s.command in
      ap (latest k.sets other 0) s.split ∙
      latest-append k.sets other 0 s.before (s.command ∷ s.after) ∙
      (λ i. latest k.sets (cond (true_of (k.sets c) s.comes i) (zero-add i) (latest k.sets other 0 s.before)) (zero-add i + words_of c) s.after)

  setter-later : (place : ℕ) → Latest k.sets onward s.after place → Setter k cs place
  setter-later place l =
      record {
        latest-of =
            record {
              before = s.before ++ s.command ∷ l.before;
              command = l.command;
              after = l.after;
              split = s.split ∙ ap (λ (x : List (List ℕ)). s.before ++ s.command ∷ x) l.split ∙ sym (append_assoc s.before (s.command ∷ l.before) (l.command ∷ l.after));
              at-command = omega (arith, l.at-command, words_append s.before (s.command ∷ l.before));
              comes = l.comes;
              last = l.last;
            };
        uncleared = none_after k.clears l.before l.command l.after (subst (NoneOf k.clears) l.split s.stays);
      }

  setter-here : (place : ℕ) → NoneOf k.sets s.after → place ≡ passed → Setter k cs place
  setter-here place none e =
      record {
        latest-of =
            record {
              before = s.before;
              command = s.command;
              after = s.after;
              split = s.split;
              at-command = omega (arith, e);
              comes = s.comes;
              last = none;
            };
        uncleared = s.stays;
      }

  setter : Setter k cs (latest k.sets other 0 cs)
  setter =
      subst (Setter k cs) (sym from-setter)
      (⊎_elim (λ l. setter-later _ l) (λ r. setter-here _ r.0 r.1) (latest-found k.sets passed onward s.after))

-- ---- where a sync is missing

-- the commands of a list, cut before the one that misses a sync
pub record Missing (list : List ℕ) (place : ℕ) : Type 0 where
  pub before : List (List ℕ)
  pub refused : List ℕ
  pub after : List (List ℕ)
  pub split : commands_of list ≡ before ++ refused ∷ after
  pub at-refused : place ≡ words_in before
  pub missing : T (not (eqb (required_of (state_after start before).hazards (first_number refused)) 0))

some-sync : (r k : ℕ) → T (eqb r k) → T (not (eqb k 0)) → T (not (eqb r 0))
some-sync r k e t = subst (λ (x : ℕ). T (not (eqb x 0))) (sym (eqb→eq r k e)) t

-- 7 to 9 are grounds of a missing sync only
own-none : (s : State) (c : List ℕ) (n : ℕ) → T (between 7 9 n) → Among n (own_refusals s c) → ⊥
unfolding own_refusals
own-none s c n t (inl h) = subst (λ (k : ℕ). T (between 7 9 k)) (sym h.1) t
own-none s c n t (inr (inl h)) = subst (λ (k : ℕ). T (between 7 9 k)) (sym h.1) t
own-none s c n t (inr (inr (inl h))) = subst (λ (k : ℕ). T (between 7 9 k)) (sym h.1) t
own-none s c n t (inr (inr (inr (inl h)))) = subst (λ (k : ℕ). T (between 7 9 k)) (sym h.1) t
own-none s c n t (inr (inr (inr (inr h)))) = h

sync-ground : (s : State) (c : List ℕ) (n : ℕ) → Among n (sync_refusals s c) → T (not (eqb (required_of s.hazards (first_number c)) 0))
unfolding sync_refusals
sync-ground s c n (inl h) = some-sync (required_of s.hazards (first_number c)) 1 h.0 tt
sync-ground s c n (inr (inl h)) = some-sync (required_of s.hazards (first_number c)) 2 h.0 tt
sync-ground s c n (inr (inr (inl h))) = some-sync (required_of s.hazards (first_number c)) 3 h.0 tt
sync-ground s c n (inr (inr (inr h))) = absurd h

ground-by :
    (strict : Bool) (s : State) (c : List ℕ) (n : ℕ) → T (between 7 9 n) → Among n (refusals_by strict s c) →
    T (not (eqb (required_of s.hazards (first_number c)) 0))
ground-by true s c n t m = ⊎_elim (λ a. absurd (own-none s c n t a)) (sync-ground s c n) (among-parts n (own_refusals s c) (sync_refusals s c) m)
ground-by false s c n t m = absurd (own-none s c n t m)

from-command : (strict : Bool) (list : List ℕ) (n p : ℕ) → T (between 7 9 n) → CommandHolds (refusals_by strict) list n p → Missing list p
from-command strict list n p t (past_end h) = absurd t
from-command strict list n p t (at_command before c after number split m) =
    let missing = ground-by strict (state_after start before) c number t m in
    record { before = before; refused = c; after = after; split = split; at-refused = refl; missing = missing }

from_list : (list : List ℕ) (n p : ℕ) → T (between 7 9 n) → Holds 4096 check_refusals list n p → Missing list p
from_list list n p t (too_long h) = absurd t
from_list list n p t (not_words h) = absurd t
from_list list n p t (of_commands m q h) = from-command true list m q t h

missing_at : (list : List ℕ) → T (between 7 9 (check_of list).number) → Missing list (check_of list).place
missing_at list t =
    from_list list (check_of list).number (check_of list).place t
    ((check-first list).refused (λ z. subst (λ (k : ℕ). T (between 7 9 k)) z t))

numbered-by : (strict : Bool) → Numbered (refusals_by strict)
numbered-by true = check-numbered
numbered-by false = own-numbered

missing-judged :
    (strict : Bool) (list : List ℕ) → T (between 7 9 (judge_list (refusals_by strict) list).number) →
    Missing list (judge_list (refusals_by strict) list).place
missing-judged strict list t =
    from-command strict list _ _ t
    ((commands-first (refusals_by strict) list (numbered-by strict)).refused (λ z. subst (λ (k : ℕ). T (between 7 9 k)) z t))

alone-parts : (bs : List (List ℕ)) (c : List ℕ) (cs : List (List ℕ)) → AllAlone (bs ++ c ∷ cs) → AllAlone bs × Alone c
alone-parts [] c cs h = (tt, h.0)
alone-parts (b ∷ bs) c cs h = let r = alone-parts bs c cs h.1 in ((h.0, r.0), r.1)

module _ {list : List ℕ} {place : ℕ} (m : Missing list place) where
  alone : AllAlone m.before × Alone m.refused
  alone = alone-parts m.before m.refused m.after (subst AllAlone m.split (parsed list).alone)

  -- what stands after the refused command
  abbrev more : List ℕ
  more = joined m.after ++ rest_of list

  list-is : list ≡ joined m.before ++ (m.refused ++ more)
  list-is =
      sym (parsed list).joins ∙
      ap (λ (cs : List (List ℕ)). joined cs ++ rest_of list) m.split ∙
      ap (λ (x : List ℕ). x ++ rest_of list) (joined-append m.before (m.refused ∷ m.after)) ∙
      append_assoc (joined m.before) (m.refused ++ joined m.after) (rest_of list) ∙
      ap (λ (x : List ℕ). joined m.before ++ x) (append_assoc m.refused (joined m.after) (rest_of list))

  before-long : length (joined m.before) ≡ 8 * place
  before-long = length-joined m.before alone.0 ∙ ap (λ (k : ℕ). 8 * k) (sym m.at-refused)

  pub place_inside : 8 * place ≤ length list
  place_inside = omega (arith, ap length list-is, length-append (joined m.before) (m.refused ++ more), before-long)

  front : take (8 * place) list ≡ joined m.before
  front = ap (take (8 * place)) list-is ∙ take_at (joined m.before) (m.refused ++ more) (8 * place) before-long

  pub rest-before : rest_of (take (8 * place) list) ≡ []
  rest-before = ap rest_of front ∙ rest-joined m.before alone.0

  commands-before : commands_of (take (8 * place) list) ≡ m.before
  commands-before = ap commands_of front ∙ commands-joined m.before alone.0

  number-there : number_in (word_at list place) ≡ first_number m.refused
  number-there =
      ap number_in
      (sym (word-drop list place) ∙
      ap (λ (x : List ℕ). word_at x 0) (ap (drop (8 * place)) list-is ∙ drop_at (joined m.before) (m.refused ++ more) (8 * place) before-long) ∙
      word-front m.refused more 0 (omega (arith, alone.1, command-some m.refused)))

  -- the mark that the refused command needs cleared
  abbrev mark : Mark
  mark = awaited (first_number m.refused)

  cause-latest : cause_at list place ≡ latest mark.sets (length list / 8) 0 m.before
  cause-latest = λ i. latest (awaited (number-there i)).sets (length list / 8) 0 (commands-before i)

  standing : Stands mark m.before
  standing =
      let n = first_number m.refused in
      let s = state_after start m.before in
      (exactly (awaited-mark n) m.before).0
      (awaited-stands s.hazards n (state-low start m.before (omega arith)) (number_small (word_at m.refused 0)) m.missing)

  is-cause : IsCause list place (cause_at list place)
  is-cause =
      let s = setter mark (length list / 8) m.before standing in
      let l = s.latest-of in
      record {
        before = l.before;
        command = l.command;
        meanwhile = l.after;
        refused = m.refused;
        after = m.after;
        split = m.split ∙ ap (λ (x : List (List ℕ)). x ++ m.refused ∷ m.after) l.split;
        at-refused = m.at-refused ∙ ap words_in l.split;
        at-command = omega (arith, cause-latest, l.at-command);
        sets = l.comes;
        last = l.last;
        uncleared = s.uncleared;
      }

-- what the check answers is a cause, and at every other answer the list's whole words
pub cause-is : (list : List ℕ) → T (between 7 9 (check_of list).number) → IsCause list (check_of list).place (check_of list).cause
unfolding cause_of
cause-is list t = rw (true_of (between 7 9 (check_of list).number) t) (is-cause (missing_at list t))

-- it stands before the refused command
pub cause-before : (list : List ℕ) → T (between 7 9 (check_of list).number) → (check_of list).cause < (check_of list).place
cause-before list t =
    let c = cause-is list t in
    omega (arith, c.at-command, c.at-refused, words_append c.before (c.command ∷ c.meanwhile), command-some c.command)

pub cause-words : (list : List ℕ) → T (not (between 7 9 (check_of list).number)) → (check_of list).cause ≡ length list / 8
unfolding cause_of
cause-words list t = rw (false_of (between 7 9 (check_of list).number) t)

-- ---- as the code finds it

module _ (list : List ℕ) (number place : ℕ) (whole : Bool) where
  -- what is answered of the bytes
  abbrev answered : ℕ
  answered = cond whole (cause_of list number place) (length list / 8)

  pub cause-else : not (whole && between 7 9 number) ≡ true → length list / 8 ≡ answered
  unfolding cause_of
  cause-else t = either whole (between 7 9 number) (not-true (whole && between 7 9 number) t)
    where
      either : (a b : Bool) → a && b ≡ false → length list / 8 ≡ cond a (cond b (cause_at list place) (length list / 8)) (length list / 8)
      either true b e = rw e
      either false b e = refl

  module _ (t : not (whole && between 7 9 number) ≡ false) where
    both_hold : T whole × T (between 7 9 number)
    both_hold = both whole (between 7 9 number) (not-false (whole && between 7 9 number) t)

    pub missing-of : (whole ≡ true → IsJudged list number place) → Missing list place
    missing-of judged =
        let j = judged (true_of whole both_hold.0) in
        let d = subst T (ap (between 7 9) j.is_number) both_hold.1 in
        subst (Missing list) (sym j.is-place) (missing-judged j.strict list d)

    pub cause-sought :
        (numbers : ℕ) → Numbers numbers (awaited (number_in (word_at list place))).sets → (found : ℕ) →
        found ≡ latest (is_among numbers) (length list / 8) 0 (commands_of (take (8 * place) list)) → found ≡ answered
    unfolding cause_of
    cause-sought numbers are found is =
        rw (true_of whole both_hold.0, true_of (between 7 9 number) both_hold.1)
        (is ∙ latest-same (is_among numbers) (awaited (number_in (word_at list place))).sets are (length list / 8) 0 (commands_of (take (8 * place) list)))

-- ---- the loop that seeks the latest

-- no list has more words in its commands than bytes
words-within : (list : List ℕ) → words_in (commands_of list) ≤ length list
words-within list =
    let p = parsed list in
    omega (arith, length-joined (commands_of list) p.alone, length-append (joined (commands_of list)) (rest_of list), ap length p.joins)

-- what holds at its head: from what was found, the latest of the commands that are left is the answer, and these have the words that are left
pub record Seeking (numbers : ℕ) (list : List ℕ) (other : ℕ) (rest : List ℕ) (at found : ℕ) : Type 0 where
  pub same : latest (is_among numbers) found at (commands_of rest) ≡ latest (is_among numbers) other 0 (commands_of list)
  pub within : at + words_in (commands_of rest) ≡ words_in (commands_of list)

pub seek-first : (numbers : ℕ) (list : List ℕ) (other : ℕ) → Seeking numbers list other list 0 other
seek-first numbers list other = record { same = refl; within = omega arith }

-- of a list of whole commands each one is all there
pub seek-fits :
    (list : List ℕ) (at n : ℕ) → n ≡ number_in (word_at list at) → rest_of (drop (8 * at) list) ≡ [] → at < length list / 8 → at + words_of n ≤ length list / 8
seek-fits list at n is none more =
    elim (dec_le (at + words_of n) (length list / 8)) [
      | yes h ↦ h
      | no h ↦
          let empty = sym (rest-past list at n is (lt_of_not-le h)) ∙ none in
          absurd (omega (arith, ap length empty, length-drop (8 * at) list, more))
    ]

module _ {numbers : ℕ} {list : List ℕ} {other : ℕ} {rest : List ℕ} {at found : ℕ} (s : Seeking numbers list other rest at found) (c rest' : List ℕ) (steps : commands_of rest ≡ c ∷ commands_of rest') where
  left : at + (words_of (first_number c) + words_in (commands_of rest')) ≡ words_in (commands_of list)
  left = ap (λ (cs : List (List ℕ)). at + words_in cs) (sym steps) ∙ s.within

  pub seek-few : at + words_of (first_number c) ≤ length list
  seek-few = omega (arith, left, words-within list)

  pub seek-next : (found' : ℕ) → found' ≡ cond (is_among numbers (first_number c)) at found → Seeking numbers list other rest' (at + words_of (first_number c)) found'
  unfolding latest
  seek-next found' is =
      record {
        same =
            ap (λ (f : ℕ). latest (is_among numbers) f (at + words_of (first_number c)) (commands_of rest')) is ∙
            ap (latest (is_among numbers) found at) (sym steps) ∙
            s.same;
        within = omega (arith, left);
      }

-- at the command at a place of the list, which has the number n
pub seek-on :
    {numbers : ℕ} {list : List ℕ} {other at found : ℕ} → Seeking numbers list other (drop (8 * at) list) at found → (n : ℕ) → n ≡ number_in (word_at list at) →
    at + words_of n ≤ length list / 8 → (found' : ℕ) → found' ≡ cond (is_among numbers n) at found →
    Seeking numbers list other (drop (8 * (at + words_of n)) list) (at + words_of n) found'
seek-on {numbers} {list} {other} {at} {found} s n is whole found' is-found =
    let number = command-number list at n is whole in
    subst (λ (m : ℕ). Seeking numbers list other (drop (8 * (at + words_of n)) list) (at + words_of m) found') number
    (seek-next s (command_at list at n) (drop (8 * (at + words_of n)) list) (commands-at list at n is whole) found'
    (is-found ∙ ap (λ (m : ℕ). cond (is_among numbers m) at found) (sym number)))

pub seek-end : {numbers : ℕ} {list : List ℕ} {other : ℕ} {rest : List ℕ} {at found : ℕ} → Seeking numbers list other rest at found → commands_of rest ≡ [] → found ≡ latest (is_among numbers) other 0 (commands_of list)
unfolding latest
seek-end {numbers} {at = at} {found = found} s none = ap (latest (is_among numbers) found at) (sym none) ∙ s.same
