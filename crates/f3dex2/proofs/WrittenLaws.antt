-- The words that are written. Promise: `words-commands`, they are whole commands with bits 63:62 zero, for each display list command read just those that it
-- becomes, in their order; so one Set Other Modes for each 0xE2 and 0xE3. Assumes nothing.
use Rattle.std.proofs.Common.{ℕ, zero, suc, ◌+◌, ◌-◌, ◌/◌, ◌%◌, ◌^◌, ◌<◌, Bool, true, false, cond, not, List, [], ◌∷◌, ◌++◌, ◌≡◌, refl, ap, sym, subst, ◌∙◌, lt_of_le_of_lt, mod-lt, arith, bit_and, T, eqb, eqb→eq, lit<, length}
use Rattle.std.proofs.lemmas.Bool.{false≢true}
use Rattle.std.proofs.lemmas.Nat.{or_lt, and_le_l}
use Rattle.std.proofs.lemmas.Bool.Decides.{nat_tests}
use Rattle.rdp_words.specs.Words.{word_at, number_in}
use Rattle.rdp_words.specs.Kinds.{between, words_of}
use Rattle.rdp_words.proofs.Tests.{both, true_of, false_of}
use Rattle.f3dex2.specs.Commands.{first_byte, low_half, Role, straight, rectangle, modes, list, end, unnamed, role_of, command_word, second_word, modes_word, count_in, shift_code, masked, modified, setting_by, setting_after, setting_first, calls}
use Rattle.f3dex2.specs.Walk.{Walked, counted, resumed, named, offset_refusal, runs_role, runs, judged, walk}
use Rattle.f3dex2.specs.Translate.{walked}
use Rattle.f3dex2.specs.Written.{becomes, numbers_for, AreCommands, none, one, two}
use Rattle.f3dex2.specs.declared.Due.{Due}
use Rattle.f3dex2.specs.declared.Due.TheVariants.{Command, FirstHalf, SecondHalf}
use Rattle.f3dex2.specs.declared.Setting.{Setting}
use Rattle.f3dex2.proofs.RefusalLaws.{Sane, sane-there, none_left}
use Rattle.f3dex2.proofs.RoleLaws.{role_test, role-known, first-none, second_none, number-kept, modes-one, modes-number, modes-small}

-- ---- the low word of the other modes has 32 bits

low_small : (w : ℕ) → low_half w < 2 ^ 32
low_small w = mod-lt w (lit< tt)

modified-small : (x w : ℕ) → x < 2 ^ 32 → modified x w < 2 ^ 32
unfolding modified
modified-small x w h =
    let masked_small : masked x (32 - (shift_code w + count_in w)) (count_in w) (low_half w) < 2 ^ 32 =
    or_lt 32 (bit_and x _) (low_half w) (lt_of_le_of_lt (and_le_l x _) h) (low_small w) in
    grind (arith, nat_tests, masked_small)

low_by : (due : Due) (s : Setting) (n w : ℕ) → s.low < 2 ^ 32 → (setting_by due s n w).low < 2 ^ 32
low_by Command s n w h = grind (arith, nat_tests, low_small w, modified-small s.low w h)
low_by FirstHalf s n w h = h
low_by (SecondHalf first) s n w h = h

-- ---- what is still to be written

-- the second word of a rectangle, then whole commands
record Halved (r : Walked) : Type 0 where
  second : ℕ
  rest : List ℕ
  split : r.words ≡ second ∷ rest
  commands : AreCommands rest (numbers_for r.commands)

-- by what is due before it
abbrev Good : Due → Walked → Type 0
Good Command r = AreCommands r.words (numbers_for r.commands)
Good FirstHalf r = Halved r
Good (SecondHalf first) r = Halved r

module _ (go : List ℕ → ℕ → Setting → Walked)
    (ih : (returns : List ℕ) (at : ℕ) (s : Setting) → s.low < 2 ^ 32 → (go returns at s).number ≡ 0 → Good s.due (go returns at s)) where
  resumes : (returns : List ℕ) (s : Setting) → s.low < 2 ^ 32 → s.due ≡ Command → (resumed go returns s).number ≡ 0 → Good Command (resumed go returns s)
  resumes [] s h e z = none
  resumes (at ∷ returns) s h e z = subst (λ (d : Due). Good d (go returns at s)) e (ih returns at s h z)

  module _ (returns : List ℕ) (at w : ℕ) (s : Setting) (small : s.low < 2 ^ 32) where
    module _ (is : s.due ≡ cond (between 0xE4 0xE5 (first_byte w)) FirstHalf Command) where
      due-by : (b : Bool) → between 0xE4 0xE5 (first_byte w) ≡ b → s.due ≡ cond b FirstHalf Command
      due-by b e = is ∙ ap (λ (c : Bool). cond c FirstHalf Command) e

      -- no half-word is due after it
      plain : (to : List ℕ) (on : ℕ) → T (not (between 0xE4 0xE5 (first_byte w))) → (go to on s).number ≡ 0 → Good Command (go to on s)
      plain to on t z = subst (λ (d : Due). Good d (go to on s)) (due-by false (false_of _ t)) (ih to on s small z)

      halved : T (between 0xE4 0xE5 (first_byte w)) → (go returns (at + 8) s).number ≡ 0 → Halved (go returns (at + 8) s)
      halved t z = subst (λ (d : Due). Good d (go returns (at + 8) s)) (due-by true (true_of _ t)) (ih returns (at + 8) s small z)

      -- a word of the command's own number
      own : {ws ns : List ℕ} → AreCommands ws (number_in (command_word w) ∷ ns) → AreCommands ws (first_byte w % 64 ∷ ns)
      own {ws} {ns} = subst (λ (k : ℕ). AreCommands ws (k ∷ ns)) (number-kept w)

      words-by : {k : ℕ} → T (eqb (words_of (first_byte w % 64)) k) → words_of (number_in (command_word w)) ≡ k
      words-by t = ap words_of (number-kept w) ∙ eqb→eq _ _ t

      either :
          (b : Bool) (to : List ℕ) (on : ℕ) → T (not (between 0xE4 0xE5 (first_byte w))) → (cond b (go to on s) (go returns on s)).number ≡ 0 →
          Good Command (cond b (go to on s) (go returns on s))
      either true to on t z = plain to on t z
      either false to on t z = plain returns on t z

      role-written :
          (k : Role) → T (role_test k (first_byte w)) → named k ≡ true → (runs_role go returns at s w k).number ≡ 0 →
          AreCommands (runs_role go returns at s w k).words (becomes k (first_byte w) ++ numbers_for (runs_role go returns at s w k).commands)
      role-written straight t m z =
          let b = both (not (between 0xE4 0xE5 (first_byte w))) (eqb (words_of (first_byte w % 64)) 1) t in
          own (one (command_word w) (mod-lt w (lit< tt)) (words-by b.1) (plain returns (at + 8) b.0 z))
      role-written rectangle t m z =
          let b = both (between 0xE4 0xE5 (first_byte w)) (eqb (words_of (first_byte w % 64)) 2) t in
          let h = halved b.0 z in
          own
          (subst (λ (ws : List ℕ). AreCommands (command_word w ∷ ws) (number_in (command_word w) ∷ numbers_for (go returns (at + 8) s).commands)) (sym h.split)
          (two (command_word w) h.second (mod-lt w (lit< tt)) (words-by b.1) h.commands))
      role-written modes t m z =
          let ns = numbers_for (go returns (at + 8) s).commands in
          let e = modes-number s small in
          subst (λ (k : ℕ). AreCommands (modes_word s ∷ (go returns (at + 8) s).words) (k ∷ ns)) e
          (one (modes_word s) (modes-small s small) (ap words_of e ∙ modes-one) (plain returns (at + 8) t z))
      role-written list t m z = either (calls w) ((at + 8) ∷ returns) (low_half w) t z
      role-written end t m z = resumes returns s small (due-by false (false_of _ t)) z
      role-written unnamed t m z = absurd (false≢true m)

    -- one more command is read, which becomes none
    passed_over : {r : Walked} → becomes (role_of (first_byte w)) (first_byte w) ≡ [] → Halved r → Halved (counted w r)
    passed_over {r} e h =
        record {
          second = h.second;
          rest = h.rest;
          split = h.split;
          commands = subst (λ (ns : List ℕ). AreCommands h.rest (ns ++ numbers_for r.commands)) (sym e) h.commands;
        }

  runs-written :
      (returns : List ℕ) (at w depth : ℕ) (due : Due) (s : Setting) → s.low < 2 ^ 32 → Sane due depth (first_byte w) w →
      (runs go returns at (setting_by due s (first_byte w) w) w due).number ≡ 0 → Good due (counted w (runs go returns at (setting_by due s (first_byte w) w) w due))
  runs-written returns at w depth Command s h sane z =
      let n = first_byte w in
      role-written returns at w (setting_by Command s n w) (low_by Command s n w h) refl (role_of n) (role-known n) sane.stands_in_place z
  runs-written returns at w depth FirstHalf s h sane z =
      let after = setting_by FirstHalf s (first_byte w) w in
      passed_over returns at w after h (first-none (first_byte w) sane.stands_in_place) (ih returns (at + 8) after h z)
  runs-written returns at w depth (SecondHalf first) s h sane z =
      let after = setting_by (SecondHalf first) s (first_byte w) w in
      let r = go returns (at + 8) after in
      record {
        second = second_word first w;
        rest = r.words;
        split = refl;
        commands =
            subst (λ (ns : List ℕ). AreCommands r.words (ns ++ numbers_for r.commands)) (sym (second_none (first_byte w) sane.stands_in_place))
            (ih returns (at + 8) after h z);
      }

-- ---- the walk

judged-good :
    (due : Due) (g at w : ℕ) (r : Walked) → (g ≡ 0 → r.number ≡ 0 → Good due (counted w r)) → (judged g at w r).number ≡ 0 → Good due (judged g at w r)
judged-good due zero at w r good z = good refl z
judged-good due (suc g) at w r good z = absurd (omega arith)

walk-good :
    (memory : List ℕ) (left : ℕ) (returns : List ℕ) (at : ℕ) (s : Setting) → s.low < 2 ^ 32 → (walk memory left returns at s).number ≡ 0 →
    Good s.due (walk memory left returns at s)
unfolding walk setting_after
walk-good memory zero returns at s h z = absurd (none_left memory (length returns) at s z)
walk-good memory (suc left) returns at s h z =
    let w = word_at memory (at / 8) in
    judged-good s.due (offset_refusal memory (suc left) (length returns) at s) at w _
    (λ g. runs-written (walk memory left) (walk-good memory left) returns at w (length returns) s.due s h (sane-there memory (suc left) (length returns) at s g)) z

pub words-commands :
    (memory : List ℕ) (start : ℕ) → (walked memory start).number ≡ 0 → AreCommands (walked memory start).words (numbers_for (walked memory start).commands)
words-commands memory start z = walk-good memory 4096 [] start setting_first (omega arith) z
