-- Commands judged from a checkpoint on: what the walk over whole words gives, and every state that stands there. Assumes nothing.
use mathlib.Core.Path.{◌≡◌, refl, sym, ◌∙◌, ap}
use mathlib.Core.Bool.{Bool, true, cond, not}
use mathlib.Core.List.{List, [], ◌∷◌, ◌++◌}
use Prim.Native.Nat.{ℕ, zero, suc, ◌+◌, ◌*◌, ◌/◌, ◌≤◌, ◌<◌}
use native.Mathlib.Omega.{arith}
use borrow.Author.Tests.{eq-eqb, ne_eqb, eqb-true, lt-ltb, le-ltb}
use lib.Dec.{T, eqb}
use lib.ListN.{length, take}
use Rattle.rdp_words.specs.Kinds.{words_of}
use Rattle.rdp_words.specs.Lengths.{first_number}
use Rattle.rdp_words.proofs.Tests.{by-test, false_of}
use Rattle.rdp_check.specs.Order.{ground, first_of}
use Rattle.rdp_check.specs.Commands.{commands_of, rest_of}
use Rattle.rdp_check.specs.Check.{State, after_command, own_refusals, sync_refusals, check_refusals, refusal_at, Judgement, at_end, settle, judge}
use Rattle.rdp_check.specs.Checkpoint.{registers_at, state_at, judged_of, check_from, StandsAt}
use Rattle.rdp_check.specs.View.{Stop, code, view, view_of, stop_at, stop_of, low_of, judge_view, judged_view}
use Rattle.rdp_check.specs.declared.Checkpoint.{Checkpoint}
use Rattle.rdp_check.specs.Checkpoint.{Judged}
use Rattle.rdp_check.specs.declared.walk.View.{View}
use Rattle.rdp_hazards.proofs.HazardLaws.{next_low, required-low}
use Rattle.rdp_check.proofs.JoinLaws.{AllAlone, parsed, command-some, commands-words}
use Rattle.rdp_check.proofs.AppendLaws.{ending, judge-ending, judge-from}
use Rattle.rdp_check.proofs.StopLaws.{judge-seen, judged-seen}
use Rattle.rdp_check.proofs.OrderLaws.{all_give, first_gives}
use Rattle.rdp_check.proofs.FirstLaws.{settled-gives}

-- ---- a command that is cut

-- no command is refused by 3
abbrev apart : ℕ → Bool
apart g = not (eqb g 3)

check-apart : (s : State) (c : List ℕ) → T (all_give apart (check_refusals s c))
unfolding own_refusals sync_refusals
check-apart s c = tt

judge-apart : (s : State) (at : ℕ) (cs : List (List ℕ)) → T (apart (judge check_refusals s at cs []).number)
unfolding judge
judge-apart s at [] = tt
judge-apart s at (c ∷ cs) =
    settled-gives apart (refusal_at check_refusals s c) at s _ (first_gives apart (check_refusals s c) 0 (check-apart s c) tt)
    (judge-apart (after_command s c) (at + words_of (first_number c)) cs)

abbrev uncut_of : Stop → Stop
uncut_of q = stop_at (cond (eqb q.number 3) 0 q.number) q.place q.view

uncut-none : (o : Judgement) (rest : List ℕ) → o.number ≡ 0 → uncut_of (stop_of (at_end o.state o.place rest)) ≡ stop_of o
uncut-none o [] z = λ i. stop_at (sym z i) o.place (view_of o.state)
uncut-none o (b ∷ bs) z = λ i. stop_at (sym z i) o.place (view_of o.state)

uncut-ending : (o : Judgement) (rest : List ℕ) → T (apart o.number) → uncut_of (stop_of (ending o rest)) ≡ stop_of o
uncut-ending o rest a =
    by-test (eqb o.number 0) (λ t. rw t (uncut-none o rest (eqb-true _ _ t))) (λ f. rw (f, false_of (eqb o.number 3) a))

-- what the walk over the whole words of bytes gives, with 3 taken for no refusal
pub whole-commands :
    (s : State) (bs : List ℕ) (q : Stop) → q ≡ judged_view true (view_of s) 0 (take (8 * (length bs / 8)) bs) → (n : ℕ) →
    n ≡ cond (eqb q.number 3) 0 q.number → stop_at n q.place q.view ≡ stop_of (judge check_refusals s 0 (commands_of bs) [])
whole-commands s bs q is n is-n =
    let xs = take (8 * (length bs / 8)) bs in
    let o = judge check_refusals s 0 (commands_of xs) [] in
    (λ i. stop_at (is-n i) q.place q.view) ∙
    ap uncut_of (is ∙ sym (judged-seen true s 0 xs) ∙ ap stop_of (judge-ending check_refusals s 0 (commands_of xs) (rest_of xs))) ∙
    uncut-ending o (rest_of xs) (judge-apart s 0 (commands_of xs)) ∙
    ap (λ (cs : List (List ℕ)). stop_of (judge check_refusals s 0 cs [])) (commands-words bs)

-- ---- the low four bits of the hazards count

-- an outcome from hazards, and from their low bits: the hazards stay as they were where no command is accepted
record Low (h at : ℕ) (o low : Judgement) : Type 0 where
  number : low.number ≡ o.number
  place : low.place ≡ o.place
  ended : low.state.ended ≡ o.state.ended
  hazards : cond (eqb low.place at) h low.state.hazards ≡ o.state.hazards

after-low : (s : State) (c : List ℕ) → after_command (low_of s) c ≡ after_command s c
unfolding after_command
after-low s c =
    λ i.
    record { hazards = next_low s.hazards (first_number c) i; ended = (after_command s c).ended; registers = (after_command s c).registers }

refusal-low : (s : State) (c : List ℕ) → refusal_at check_refusals (low_of s) c ≡ refusal_at check_refusals s c
unfolding own_refusals sync_refusals
refusal-low s c =
    ap (λ (x : ℕ). first_of (own_refusals s c ++ (ground 7 (eqb x 1) ∷ ground 8 (eqb x 2) ∷ ground 9 (eqb x 3) ∷ [])) 0) (required-low s.hazards (first_number c))

low-settled : (g at : ℕ) (s : State) (o : Judgement) → at < o.place → Low s.hazards at (settle g at s o) (settle g at (low_of s) o)
low-settled zero at s o h = record { number = refl; place = refl; ended = refl; hazards = rw (ne_eqb o.place at (λ e. omega arith)) }
low-settled (suc g) at s o h = record { number = refl; place = refl; ended = refl; hazards = rw (eq-eqb at at refl) }

low-judged : (s : State) (at : ℕ) (cs : List (List ℕ)) → Low s.hazards at (judge check_refusals s at cs []) (judge check_refusals (low_of s) at cs [])
unfolding judge
low-judged s at [] = record { number = refl; place = refl; ended = refl; hazards = rw (eq-eqb at at refl) }
low-judged s at (c ∷ cs) =
    let w = words_of (first_number c) in
    let o = judge check_refusals (after_command s c) (at + w) cs [] in
    let from : at + w ≤ o.place = judge-from check_refusals (after_command s c) (at + w) cs [] in
    rw (refusal-low s c, after-low s c) (low-settled (refusal_at check_refusals s c) at s o (omega (arith, command-some c)))

-- ---- what `check_from` answers

pub from-over : (b : Checkpoint) (bs : List ℕ) → 32768 < length bs → ◌≡◌ {A = Judged} (record { number = 1; place = 4096; hazards = b.hazards; ended = b.ended }) (check_from b bs)
unfolding check_from
from-over b bs h = rw (lt-ltb _ _ h)

from-within : (b : Checkpoint) (bs : List ℕ) → length bs ≤ 32768 → judged_of (judge check_refusals (state_at b) 0 (commands_of bs) []) ≡ check_from b bs
unfolding check_from
from-within b bs h = rw (le-ltb _ _ h)

pub from-stop :
    (b : Checkpoint) (bs : List ℕ) → length bs ≤ 32768 → (q : Stop) → q ≡ stop_of (judge check_refusals (low_of (state_at b)) 0 (commands_of bs) []) → (a : ℕ) →
    a ≡ cond (eqb q.place 0) b.hazards q.view.hazards →
    ◌≡◌ {A = Judged} (record { number = q.number; place = q.place; hazards = a; ended = q.view.rest.ended }) (check_from b bs)
unfolding view_of
from-stop b bs few q is a is-a =
    let k = low-judged (state_at b) 0 (commands_of bs) in
    let hazards = is-a ∙ ap (λ (x : Stop). cond (eqb x.place 0) b.hazards x.view.hazards) is ∙ k.hazards in
    (λ i.
    record {
      number = (ap (λ (x : Stop). x.number) is ∙ k.number) i;
      place = (ap (λ (x : Stop). x.place) is ∙ k.place) i;
      hazards = hazards i;
      ended = (ap (λ (x : Stop). x.view.rest.ended) is ∙ k.ended) i;
    }) ∙
    from-within b bs few

-- ---- every state that stands at a checkpoint

seen_at : {b : Checkpoint} {s : State} → StandsAt b s → view_of (state_at b) ≡ view_of s
unfolding view_of registers_at
seen_at k =
    λ i.
    let m = sym k.modes i in
    let c = sym k.image i in
    view (sym k.hazards i) (sym k.ended i) (code m.set (eqb m.value.cycle_type 3)) (code c.set (eqb c.value.size 0)) (sym k.scissor i).set

abbrev shown_in : Stop → Judged
shown_in q = record { number = q.number; place = q.place; hazards = q.view.hazards; ended = q.view.rest.ended }

shown-in : (o : Judgement) → judged_of o ≡ shown_in (stop_of o)
unfolding view_of
shown-in o = refl

pub from-state :
    {b : Checkpoint} {s : State} → StandsAt b s → (bs : List ℕ) → length bs ≤ 32768 →
    check_from b bs ≡ judged_of (judge check_refusals s 0 (commands_of bs) [])
from-state {b} {s} k bs few =
    let cs = commands_of bs in
    let alone : AllAlone cs = (parsed bs).alone in
    sym (from-within b bs few) ∙
    shown-in (judge check_refusals (state_at b) 0 cs []) ∙
    ap shown_in (judge-seen true (state_at b) 0 cs [] alone ∙ ap (λ (v : View). judge_view true v 0 cs []) (seen_at k) ∙ sym (judge-seen true s 0 cs [] alone)) ∙
    sym (shown-in (judge check_refusals s 0 cs []))
