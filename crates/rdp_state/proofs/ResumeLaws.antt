-- A list judged on from where it stands, as `resume` finds it. Assumes nothing.
use Rattle.std.proofs.Common.{◌≡◌, refl, sym, ◌∙◌, ap, List, [], ℕ, ◌≤◌, ◌<◌, le_refl, lt-ltb, le-ltb, ltb-true, ltb-false, ltb, length}
use Rattle.rdp_words.proofs.Tests.{by-test}
use Rattle.rdp_check.specs.Commands.{commands_of}
use Rattle.rdp_check.specs.Check.{check_refusals, Judgement, judge}
use Rattle.rdp_check.specs.Checkpoint.{judged_of, check_from, StandsAt}
use Rattle.rdp_check.specs.declared.Checkpoint.{Checkpoint}
use Rattle.rdp_check.specs.Checkpoint.{Judged}
use Rattle.rdp_check.proofs.JoinLaws.{parsed}
use Rattle.rdp_check.proofs.FirstLaws.{judge-gives}
use Rattle.rdp_check.proofs.OnwardLaws.{from-over, from-state}
use Rattle.rdp_state.specs.RegisterWords.{registers_by, word}
use Rattle.rdp_state.specs.Replay.{storing, adding, words_up_to, waited_up_to, end_of}
use Rattle.rdp_state.specs.declared.Replay.{Replay}
use Rattle.rdp_state.specs.Resume.{Resumed, state_in, resumed_at, judge_in, resumed_of}
use Rattle.rdp_state.specs.declared.Standing.{Standing}
use Rattle.rdp_state.proofs.ReplayLaws.{still, apart, check-apart, end-at}
use Rattle.rdp_state.proofs.StandingLaws.{outcome_in, judged-state, left_in}

-- ---- the bytes that are judged

pub resumed-over : (b : Standing) (bs : List ℕ) → 32768 < length bs → resumed_at 1 4096 b ≡ resumed_of b bs
unfolding resumed_of
resumed-over b bs h = rw (lt-ltb _ _ h)

pub resumed-within : (b : Standing) (bs : List ℕ) → length bs ≤ 32768 → judge_in b 0 (commands_of bs) ≡ resumed_of b bs
unfolding resumed_of
resumed-within b bs h = rw (le-ltb _ _ h)

-- ---- what `resume` puts together

-- what the check reads of the words
abbrev checkpoint_of : Standing → Checkpoint
checkpoint_of b =
    record { other_modes = word b.words 5; color_image = word b.words 14; scissor = word b.words 3; hazards = b.hazards; ended = b.ended }

stands : (b : Standing) → StandsAt (checkpoint_of b) (state_in b)
unfolding registers_by
stands b = record { hazards = refl; ended = refl; modes = refl; scissor = refl; image = refl }

abbrev put : Judged → Replay → Resumed
put j left =
    record {
      standing = record { words = left.words; hazards = j.hazards; ended = j.ended; waited = left.waited };
      number = j.number;
      place = j.place;
    }

-- what the commands leave that begin before a place, and those up to the place of an answer
abbrev left_at : Standing → List ℕ → ℕ → Replay
left_at b bs end = record { words = words_up_to end 0 b.words (commands_of bs); waited = waited_up_to end 0 b.waited (commands_of bs) }

abbrev replayed : Standing → List ℕ → Judged → Replay
replayed b bs j = left_at b bs (end_of j.number j.place)

module _ (b : Standing) (long : length b.words ≡ 32) (bs : List ℕ) where
  abbrev cs : List (List ℕ)
  cs = commands_of bs

  abbrev o : Judgement
  o = judge check_refusals (state_in b) 0 cs []

  abbrev q : Resumed
  q = judge_in b 0 cs

  same : o ≡ outcome_in q
  same = sym (judged-state b long 0 cs (parsed bs).alone)

  left : replayed b bs (judged_of o) ≡ record { words = q.standing.words; waited = q.standing.waited }
  left =
      let l = left_in b 0 cs in
      ap (left_at b bs)
      (end-at o.number o.place (judge-gives apart check_refusals check-apart tt tt (state_in b) 0 cs []) ∙ ap (λ (x : Judgement). x.place) same) ∙
      (λ i. record { words = l.words i; waited = l.waited i })

  within : length bs ≤ 32768 → put (check_from (checkpoint_of b) bs) (replayed b bs (check_from (checkpoint_of b) bs)) ≡ resumed_of b bs
  within few =
      ap (λ (j : Judged). put j (replayed b bs j)) (from-state (stands b) bs few) ∙
      ap (put (judged_of o)) left ∙
      ap (λ (x : Judgement). put (judged_of x) (record { words = q.standing.words; waited = q.standing.waited })) same ∙
      resumed-within b bs few

  over : 32768 < length bs → put (check_from (checkpoint_of b) bs) (replayed b bs (check_from (checkpoint_of b) bs)) ≡ resumed_of b bs
  over h =
      ap (λ (j : Judged). put j (replayed b bs j)) (sym (from-over (checkpoint_of b) bs h)) ∙
      (λ i.
      resumed_at 1 4096
      (record {
        words = still storing 0 0 b.words cs (le_refl 0) i;
        hazards = b.hazards;
        ended = b.ended;
        waited = still adding 0 0 b.waited cs (le_refl 0) i;
      })) ∙
      resumed-over b bs h

  pub resumed-is :
      (j : Judged) → j ≡ check_from (checkpoint_of b) bs → (end : ℕ) → end ≡ end_of j.number j.place → (r : Replay) →
      (r.words ≡ words_up_to end 0 b.words cs) × (r.waited ≡ waited_up_to end 0 b.waited cs) → put j r ≡ resumed_of b bs
  resumed-is j is-j end is-end r is-r =
      ap (put j) ((λ i. record { words = is-r.0 i; waited = is-r.1 i }) ∙ ap (left_at b bs) is-end) ∙
      ap (λ (x : Judged). put x (replayed b bs x)) is-j ∙
      by-test (ltb 32768 (length bs)) (λ t. over (ltb-true _ _ t)) (λ f. within (ltb-false _ _ f))
