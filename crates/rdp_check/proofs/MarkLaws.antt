-- The hazards after some commands are the four marks of document 01. Assumes nothing.
use mathlib.Core.Bool.{Bool, true, false, not, ◌&&◌, ◌||◌}
use mathlib.Core.List.{List, [], ◌∷◌, ◌++◌}
use mathlib.Core.Logic.{◌⊎◌, inl, inr, ⊎_elim}
use mathlib.Core.Path.{◌≡◌, refl, sym, ap, subst}
use Prim.Native.Nat.{ℕ, ◌<◌}
use native.Mathlib.Omega.{arith}
use lib.Dec.{T}
use Rattle.rdp_words.specs.Words.{word_at}
use Rattle.rdp_words.specs.Kinds.{kind_of, has_bit}
use Rattle.rdp_words.specs.Lengths.{first_number}
use Rattle.rdp_words.proofs.Tests.{both, same, same_bool}
use Rattle.rdp_words.proofs.PlaceLaws.{number_small}
use Rattle.rdp_hazards.specs.Hazards.{hazards_of, next_of}
use Rattle.rdp_check.specs.Check.{State, start, after_command}
use Rattle.rdp_check.specs.Refusals.{state_after}
use Rattle.rdp_hazards.specs.Marks.{Mark, mark_p, mark_t, mark_d, mark_g, NoneOf, Stands, Exactly, MarksAre}
use Rattle.rdp_hazards.proofs.HazardLaws.{next_small, all_states, at-state}

or_parts : (a b : Bool) → T (a || b) → T a ⊎ T b
or_parts true b t = inl tt
or_parts false b t = inr t

or_left : (a b : Bool) → T a → T (a || b)
or_left true b t = tt
or_left false b t = absurd t

or_kept : (a b c : Bool) → T (not b) → T c → T (a || (not b && c))
or_kept true b c t u = tt
or_kept false true c t u = absurd t
or_kept false false c t u = u

lowered : (s : State) (c : List ℕ) → (after_command s c).hazards < 16
unfolding after_command
lowered s c = next_small s.hazards (first_number c)

pub state-low : (s : State) (cs : List (List ℕ)) → s.hazards < 16 → (state_after s cs).hazards < 16
state-low s [] low = low
state-low s (c ∷ cs) low = state-low (after_command s c) cs (lowered s c)

-- a mark's rule at hazards m and number n: after the command it stands where the command sets it, or where it stood and the command does not clear it
abbrev mark_after : Mark → ℕ → ℕ → Bool
mark_after k m n = k.sets n || (not (k.clears n) && has_bit k.bit m)

pub record IsMark (k : Mark) : Type 0 where
  pub step : (m n : ℕ) → m < 16 → n < 64 → has_bit k.bit (next_of m n) ≡ mark_after k m n
  pub none : T (has_bit k.bit 0) → ⊥

module _ {k : Mark} (is : IsMark k) where
  -- the mark stands in the hazards of a state
  abbrev has : State → Bool
  has s = has_bit k.bit s.hazards

  stepped : (s : State) (c : List ℕ) → s.hazards < 16 → has (after_command s c) ≡ mark_after k s.hazards (first_number c)
  unfolding after_command
  stepped s c low = is.step s.hazards (first_number c) low (number_small (word_at c 0))

  -- after some commands it stands by one of them, or stood before and was not cleared
  stands-later : (c : List ℕ) (cs : List (List ℕ)) → Stands k cs → Stands k (c ∷ cs)
  stands-later c cs h =
      record {
        before = c ∷ h.before;
        command = h.command;
        after = h.after;
        split = ap (λ (x : List (List ℕ)). c ∷ x) h.split;
        comes = h.comes;
        stays = h.stays;
      }

  stands-next :
      (s : State) (c : List ℕ) (cs : List (List ℕ)) → s.hazards < 16 → T (has (after_command s c)) → NoneOf k.clears cs →
      Stands k (c ∷ cs) ⊎ (T (has s) × NoneOf k.clears (c ∷ cs))
  stands-next s c cs low t kept =
      ⊎_elim (λ a. inl (record { before = []; command = c; after = cs; split = refl; comes = a; stays = kept }))
      (λ b.
      let r = both (not (k.clears (first_number c))) (has s) b in
      inr (r.1, (r.0, kept)))
      (or_parts (k.sets (first_number c)) _ (subst T (stepped s c low) t))

  stands : (s : State) (cs : List (List ℕ)) → s.hazards < 16 → T (has (state_after s cs)) → Stands k cs ⊎ (T (has s) × NoneOf k.clears cs)
  stands s [] low t = inr (t, tt)
  stands s (c ∷ cs) low t =
      ⊎_elim (λ a. inl (stands-later c cs a)) (λ b. stands-next s c cs low b.0 b.1) (stands (after_command s c) cs (lowered s c) t)

  keeps : (s : State) (cs : List (List ℕ)) → s.hazards < 16 → T (has s) → NoneOf k.clears cs → T (has (state_after s cs))
  keeps s [] low t kept = t
  keeps s (c ∷ cs) low t kept =
      let n = first_number c in
      keeps (after_command s c) cs (lowered s c) (subst T (sym (stepped s c low)) (or_kept (k.sets n) (k.clears n) (has s) kept.0 t)) kept.1

  marked :
      (s : State) (before : List (List ℕ)) (c : List ℕ) (after : List (List ℕ)) → s.hazards < 16 → T (k.sets (first_number c)) → NoneOf k.clears after →
      T (has (state_after s (before ++ c ∷ after)))
  marked s [] c after low t kept =
      keeps (after_command s c) after (lowered s c) (subst T (sym (stepped s c low)) (or_left (k.sets (first_number c)) _ t)) kept
  marked s (b ∷ before) c after low t kept = marked (after_command s b) before c after (lowered s b) t kept

  -- a mark stands in the hazards exactly where a command that sets it has come with none after it that clears it
  pub exactly : (cs : List (List ℕ)) → Exactly (has (state_after start cs)) (Stands k cs)
  exactly cs = (
    λ t. ⊎_elim (λ a. a) (λ b. absurd (is.none b.0)) (stands start cs (omega arith) t),
    λ h. subst (λ (x : List (List ℕ)). T (has (state_after start x))) (sym h.split) (marked start h.before h.command h.after (omega arith) h.comes h.stays),
  )

-- the rule at the hazard states and the numbers, by one test
abbrev ruled : Mark → ℕ → ℕ → Bool
ruled k m n = same (has_bit k.bit (next_of m n)) (mark_after k m n)

by-rule : (k : Mark) → T (all_states (ruled k)) → (T (has_bit k.bit 0) → ⊥) → IsMark k
by-rule k t none = record { step = λ m n hm hn. same_bool _ _ (at-state (ruled k) t m n hm hn); none = none }

pub is-P : IsMark mark_p
unfolding next_of kind_of
is-P = by-rule mark_p tt (λ t. t)

pub is_T : IsMark mark_t
unfolding next_of kind_of
is_T = by-rule mark_t tt (λ t. t)

pub is-D : IsMark mark_d
unfolding next_of kind_of
is-D = by-rule mark_d tt (λ t. t)

pub is-G : IsMark mark_g
unfolding next_of kind_of
is-G = by-rule mark_g tt (λ t. t)

pub marks-are : (cs : List (List ℕ)) → MarksAre cs (hazards_of (state_after start cs).hazards)
marks-are cs = record { pipe = exactly is-P cs; tile = exactly is_T cs; drawn = exactly is-D cs; loaded = exactly is-G cs }
