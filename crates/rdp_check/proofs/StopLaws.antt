-- The judgement by the view is what the judgement of the commands shows. Assumes nothing.
use mathlib.Core.Path.{◌≡◌, refl, sym, ◌∙◌, ap}
use mathlib.Core.Bool.{Bool}
use mathlib.Core.List.{List, [], ◌∷◌}
use Prim.Native.Nat.{ℕ, zero, suc, ◌+◌}
use native.Mathlib.Omega.{arith}
use Rattle.rdp_words.specs.Kinds.{words_of}
use Rattle.rdp_words.specs.Lengths.{first_number, whole_words}
use Rattle.rdp_words.proofs.PlaceLaws.{words-there}
use Rattle.rdp_check.specs.Commands.{commands_of, rest_of}
use Rattle.rdp_check.specs.Check.{State, start, after_command, refusal_at, Judgement, settle, judge, judge_list, checked}
use Rattle.rdp_check.specs.Cause.{cause_of}
use Rattle.rdp_check.specs.View.{Stop, refusals_by, view_of, stop_of, settle_view, judge_view, judged_view}
use Rattle.rdp_check.specs.Check.{Checked}
use Rattle.rdp_check.specs.declared.walk.Rest.{Rest}
use Rattle.rdp_check.specs.declared.walk.View.{View}
use Rattle.rdp_check.proofs.JoinLaws.{Alone, AllAlone, command-some, parsed}
use Rattle.rdp_check.proofs.ViewLaws.{refusal-seen, view-after}

pub alone-there : (c : List ℕ) → Alone c → whole_words c ≡ 0 → ⊥
alone-there c alone z = omega (arith, words-there c (omega (arith, alone)), command-some c)

settle-seen : (g at : ℕ) (s : State) (o : Judgement) → stop_of (settle g at s o) ≡ settle_view g at (view_of s) (stop_of o)
settle-seen zero at s o = refl
settle-seen (suc g) at s o = refl

pub judge-seen :
    (strict : Bool) (s : State) (at : ℕ) (cs : List (List ℕ)) (rest : List ℕ) → AllAlone cs →
    stop_of (judge (refusals_by strict) s at cs rest) ≡ judge_view strict (view_of s) at cs rest
unfolding judge judge_view
judge-seen strict s at [] [] h = refl
judge-seen strict s at [] (b ∷ bs) h = refl
judge-seen strict s at (c ∷ cs) rest h =
    let w = words_of (first_number c) in
    settle-seen (refusal_at (refusals_by strict) s c) at s (judge (refusals_by strict) (after_command s c) (at + w) cs rest) ∙
    ap (settle_view (refusal_at (refusals_by strict) s c) at (view_of s)) (judge-seen strict (after_command s c) (at + w) cs rest h.1) ∙
    (λ i.
    settle_view (sym (refusal-seen s c strict) i) at (view_of s)
    (judge_view strict (view-after s c (alone-there c h.0) i) (at + w) cs rest))

pub judged-seen : (strict : Bool) (s : State) (at : ℕ) (bs : List ℕ) → stop_of (judge (refusals_by strict) s at (commands_of bs) (rest_of bs)) ≡ judged_view strict (view_of s) at bs
judged-seen strict s at bs = judge-seen strict s at (commands_of bs) (rest_of bs) (parsed bs).alone

-- from the first view on
pub list-seen :
    (strict : Bool) (list : List ℕ) (v : View) → v ≡ view_of start → (q : Stop) → q ≡ judged_view strict v 0 list → q ≡ stop_of (judge_list (refusals_by strict) list)
list-seen strict list v e q is = is ∙ ap (λ (x : View). judged_view strict x 0 list) e ∙ sym (judged-seen strict start 0 list)

pub first-view : (r : Rest) → r ≡ (view_of start).rest → record { hazards = 0; rest = r } ≡ view_of start
unfolding view_of
first-view r e = λ i. record { hazards = 0; rest = e i }

-- of the view the check shows the hazards
abbrev pub shown_of : List ℕ → Stop → Checked
shown_of list q = record { number = q.number; place = q.place; hazards = q.view.hazards; cause = cause_of list q.number q.place }

pub shown : (list : List ℕ) (o : Judgement) → shown_of list (stop_of o) ≡ checked list o
unfolding view_of
shown list o = refl
