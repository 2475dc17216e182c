-- The judgement from where a list stands: it is that of the state there, its words are those of the replay, and its places. Assumes nothing.
use Rattle.std.proofs.Common.{◌≡◌, refl, ◌∙◌, ap, false, ◌||◌, List, [], ◌∷◌, ℕ, zero, suc, ◌+◌, ◌≤◌, ◌<◌, le_refl, arith, lt-ltb, le-ltb, eqb, length}
use Rattle.rdp_words.specs.Words.{word_at}
use Rattle.rdp_words.specs.Kinds.{words_of}
use Rattle.rdp_words.specs.Lengths.{first_number}
use Rattle.rdp_hazards.specs.Hazards.{next_of}
use Rattle.rdp_check.specs.Commands.{words_in}
use Rattle.rdp_check.specs.Check.{State, start, after_command, check_refusals, refusal_at, Judgement, outcome, settle, judge}
use Rattle.rdp_check.specs.declared.Registers.{Registers}
use Rattle.rdp_check.proofs.JoinLaws.{Alone, AllAlone, command-some}
use Rattle.rdp_check.proofs.StopLaws.{alone-there}
use Rattle.rdp_state.specs.RegisterWords.{tile_in, slot_of}
use Rattle.rdp_state.specs.Replay.{up_to, words_up_to, waited_up_to}
use Rattle.rdp_state.specs.Resume.{Resumed, state_in, idle, standing_after, resumed_at, settle_in, judge_in}
use Rattle.rdp_state.specs.declared.Standing.{Standing}
use Rattle.rdp_state.proofs.RegisterLaws.{length-stored, registers-stored, none-set}

-- ---- the state

pub idle-start : state_in idle ≡ start
idle-start = ap (λ (r : Registers). record { hazards = 0; ended = false; registers = r }) none-set

pub after-long : (b : Standing) (c : List ℕ) → length (standing_after b c).words ≡ length b.words
unfolding standing_after
after-long b c = length-stored (slot_of (first_number c) (tile_in (word_at c 0))) b.words (word_at c 0)

pub after-state : (b : Standing) → length b.words ≡ 32 → (c : List ℕ) → Alone c → state_in (standing_after b c) ≡ after_command (state_in b) c
unfolding after_command standing_after
after-state b long c alone =
    ap (λ (r : Registers). record { hazards = next_of b.hazards (first_number c); ended = eqb (first_number c) 0x29 || b.ended; registers = r })
    (registers-stored b.words long c (alone-there c alone))

abbrev pub outcome_in : Resumed → Judgement
outcome_in q = outcome q.number q.place (state_in q.standing)

settle-state : (g at : ℕ) (b : Standing) (q : Resumed) → outcome_in (settle_in g at b q) ≡ settle g at (state_in b) (outcome_in q)
settle-state zero at b q = refl
settle-state (suc g) at b q = refl

pub judged-state :
    (b : Standing) → length b.words ≡ 32 → (at : ℕ) (cs : List (List ℕ)) → AllAlone cs →
    outcome_in (judge_in b at cs) ≡ judge check_refusals (state_in b) at cs []
unfolding judge judge_in
judged-state b long at [] h = refl
judged-state b long at (c ∷ cs) h =
    let w = words_of (first_number c) in
    let g = refusal_at check_refusals (state_in b) c in
    settle-state g at b (judge_in (standing_after b c) (at + w) cs) ∙
    ap (settle g at (state_in b))
    (judged-state (standing_after b c) (after-long b c ∙ long) (at + w) cs h.1 ∙
    ap (λ (s : State). judge check_refusals s (at + w) cs []) (after-state b long c h.0))

-- ---- the words and the cycles waited

-- the commands before the place of a judgement leave its words and its cycles
pub record LeftIn (b : Standing) (at : ℕ) (cs : List (List ℕ)) (q : Resumed) : Type 0 where
  pub from : at ≤ q.place
  pub words : words_up_to q.place at b.words cs ≡ q.standing.words
  pub waited : waited_up_to q.place at b.waited cs ≡ q.standing.waited

left-settled :
    (b : Standing) (at : ℕ) (c : List ℕ) (cs : List (List ℕ)) (g : ℕ) (q : Resumed) →
    LeftIn (standing_after b c) (at + words_of (first_number c)) cs q → LeftIn b at (c ∷ cs) (settle_in g at b q)
unfolding up_to standing_after
left-settled b at c cs zero q l =
    let more : at < q.place = omega (arith, l.from, command-some c) in
    record { from = omega arith; words = rw (lt-ltb _ _ more) l.words; waited = rw (lt-ltb _ _ more) l.waited }
left-settled b at c cs (suc g) q l =
    record { from = le_refl at; words = rw (le-ltb at at (le_refl at)); waited = rw (le-ltb at at (le_refl at)) }

pub left_in : (b : Standing) (at : ℕ) (cs : List (List ℕ)) → LeftIn b at cs (judge_in b at cs)
unfolding judge_in up_to
left_in b at [] = record { from = le_refl at; words = refl; waited = refl }
left_in b at (c ∷ cs) =
    left-settled b at c cs (refusal_at check_refusals (state_in b) c) _ (left_in (standing_after b c) (at + words_of (first_number c)) cs)

-- ---- the places

-- commands that are accepted are accepted at the place after them
settle-place : (g at p : ℕ) (b : Standing) (q : Resumed) → (q.number ≡ 0 → q.place ≡ p) → (settle_in g at b q).number ≡ 0 → (settle_in g at b q).place ≡ p
settle-place zero at p b q h e = h e
settle-place (suc g) at p b q h e = absurd (omega arith)

pub accepted-in : (b : Standing) (at : ℕ) (cs : List (List ℕ)) → (judge_in b at cs).number ≡ 0 → (judge_in b at cs).place ≡ at + words_in cs
unfolding judge_in
accepted-in b at [] e = omega arith
accepted-in b at (c ∷ cs) e =
    let w = words_of (first_number c) in
    settle-place (refusal_at check_refusals (state_in b) c) at (at + (w + words_in cs)) b (judge_in (standing_after b c) (at + w) cs)
    (λ z. accepted-in (standing_after b c) (at + w) cs z ∙ (omega arith)) e

-- the place is at most that after all commands
settle-most : (g at p : ℕ) (b : Standing) (q : Resumed) → at ≤ p → q.place ≤ p → (settle_in g at b q).place ≤ p
settle-most zero at p b q a k = k
settle-most (suc g) at p b q a k = a

pub most-in : (b : Standing) (at : ℕ) (cs : List (List ℕ)) → (judge_in b at cs).place ≤ at + words_in cs
unfolding judge_in
most-in b at [] = omega arith
most-in b at (c ∷ cs) =
    let w = words_of (first_number c) in
    settle-most (refusal_at check_refusals (state_in b) c) at (at + (w + words_in cs)) b (judge_in (standing_after b c) (at + w) cs) (omega arith)
    (omega (arith, most-in (standing_after b c) (at + w) cs))

-- a judgement from another place is the same, with its place moved
abbrev pub moved_in : ℕ → Resumed → Resumed
moved_in k q = resumed_at q.number (k + q.place) q.standing

settle-moved : (g k at : ℕ) (b : Standing) (q : Resumed) → settle_in g (k + at) b (moved_in k q) ≡ moved_in k (settle_in g at b q)
settle-moved zero k at b q = refl
settle-moved (suc g) k at b q = refl

pub judge-moved : (b : Standing) (k at : ℕ) (cs : List (List ℕ)) → judge_in b (k + at) cs ≡ moved_in k (judge_in b at cs)
unfolding judge_in
judge-moved b k at [] = refl
judge-moved b k at (c ∷ cs) =
    let w = words_of (first_number c) in
    let g = refusal_at check_refusals (state_in b) c in
    let e : k + at + w ≡ k + (at + w) = omega arith in
    ap (λ (x : ℕ). settle_in g (k + at) b (judge_in (standing_after b c) x cs)) e ∙
    ap (settle_in g (k + at) b) (judge-moved (standing_after b c) k (at + w) cs) ∙
    settle-moved g k at b (judge_in (standing_after b c) (at + w) cs)
