-- The judgement of commands, and the state after them, over commands and further commands. Assumes nothing.
use mathlib.Core.Path.{◌≡◌, refl, sym, ◌∙◌, ap}
use mathlib.Core.Bool.{false, cond}
use mathlib.Core.List.{List, [], ◌∷◌, ◌++◌, append-nil}
use Prim.Native.Nat.{ℕ, zero, suc, ◌+◌, ◌≤◌}
use native.Mathlib.Nat.{le_refl}
use native.Mathlib.Omega.{arith}
use borrow.Author.Tests.{ne_eqb}
use lib.Dec.{eqb}
use Rattle.rdp_words.specs.Kinds.{words_of}
use Rattle.rdp_words.specs.Lengths.{first_number}
use Rattle.rdp_check.specs.Commands.{words_in}
use Rattle.rdp_check.specs.Refusals.{state_after}
use Rattle.rdp_check.specs.Check.{State, after_command, Refusals, refusal_at, Judgement, outcome, at_end, settle, judge}

pub state-append : (s : State) (bs cs : List (List ℕ)) → state_after s (bs ++ cs) ≡ state_after (state_after s bs) cs
state-append s [] cs = refl
state-append s (b ∷ bs) cs = state-append (after_command s b) bs cs

-- commands that are accepted are judged to the place and the state after them
settle-accepted : (g at : ℕ) (s : State) (o end : Judgement) → (o.number ≡ 0 → o ≡ end) → (settle g at s o).number ≡ 0 → settle g at s o ≡ end
settle-accepted zero at s o end h e = h e
settle-accepted (suc g) at s o end h e = absurd (omega arith)

pub accepted-at :
    (refusals : Refusals) (s : State) (at : ℕ) (cs : List (List ℕ)) → (judge refusals s at cs []).number ≡ 0 →
    judge refusals s at cs [] ≡ outcome 0 (at + words_in cs) (state_after s cs)
unfolding judge
accepted-at refusals s at [] e = ap (λ (p : ℕ). outcome 0 p s) (omega arith)
accepted-at refusals s at (c ∷ cs) e =
    let w = words_of (first_number c) in
    let place : (at + w) + words_in cs ≡ at + (w + words_in cs) = omega arith in
    settle-accepted (refusal_at refusals s c) at s (judge refusals (after_command s c) (at + w) cs []) _
    (λ z. accepted-at refusals (after_command s c) (at + w) cs z ∙ ap (λ (p : ℕ). outcome 0 p (state_after (after_command s c) cs)) place) e

-- further commands are judged from where the first end, unless one of those is refused
abbrev pub then_judge : Refusals → Judgement → List (List ℕ) → List ℕ → Judgement
then_judge refusals o cs rest = cond (eqb o.number 0) (judge refusals o.state o.place cs rest) o

settle-then :
    (refusals : Refusals) (g at : ℕ) (s : State) (o : Judgement) (cs : List (List ℕ)) (rest : List ℕ) →
    settle g at s (then_judge refusals o cs rest) ≡ then_judge refusals (settle g at s o) cs rest
settle-then refusals zero at s o cs rest = refl
settle-then refusals (suc g) at s o cs rest = let some : eqb (suc g) 0 ≡ false = ne_eqb (suc g) 0 (λ z. omega arith) in rw some

pub judge-append :
    (refusals : Refusals) (s : State) (at : ℕ) (bs cs : List (List ℕ)) (rest : List ℕ) →
    judge refusals s at (bs ++ cs) rest ≡ then_judge refusals (judge refusals s at bs []) cs rest
unfolding judge
judge-append refusals s at [] cs rest = refl
judge-append refusals s at (b ∷ bs) cs rest =
    let w = words_of (first_number b) in
    ap (settle (refusal_at refusals s b) at s) (judge-append refusals (after_command s b) (at + w) bs cs rest) ∙
    settle-then refusals (refusal_at refusals s b) at s (judge refusals (after_command s b) (at + w) bs []) cs rest

-- the bytes of a command that is cut count only where no command is refused
abbrev pub ending : Judgement → List ℕ → Judgement
ending o rest = cond (eqb o.number 0) (at_end o.state o.place rest) o

pub judge-ending : (refusals : Refusals) (s : State) (at : ℕ) (cs : List (List ℕ)) (rest : List ℕ) → judge refusals s at cs rest ≡ ending (judge refusals s at cs []) rest
unfolding judge
judge-ending refusals s at cs rest = ap (λ (x : List (List ℕ)). judge refusals s at x rest) (sym (append-nil cs)) ∙ judge-append refusals s at cs [] rest

-- a judgement goes on from its place
settle-from : (g at : ℕ) (s : State) (o : Judgement) → at ≤ o.place → at ≤ (settle g at s o).place
settle-from zero at s o h = h
settle-from (suc g) at s o h = le_refl at

pub judge-from : (refusals : Refusals) (s : State) (at : ℕ) (cs : List (List ℕ)) (rest : List ℕ) → at ≤ (judge refusals s at cs rest).place
unfolding judge
judge-from refusals s at [] [] = le_refl at
judge-from refusals s at [] (b ∷ rest) = le_refl at
judge-from refusals s at (c ∷ cs) rest =
    settle-from (refusal_at refusals s c) at s _ (omega (arith, judge-from refusals (after_command s c) (at + words_of (first_number c)) cs rest))
