-- `rdp_repair::plan::row_before` meets its contract: after m turns the first m totals and choices stand. Assumes nothing.
use Rattle.std.proofs.Common.{◌≡◌, sym, ap, ◌∙◌, subst, ℕ, ◌/◌, ◌%◌, min, ◌<◌, arith, get_or}
use Rattle.rdp_repair.specs.Best.{chosen}
use Rattle.rdp_repair.specs.Work.{packed_choice, totals_of, choices_of, Bounded}
use Rattle.rdp_repair.proofs.RankLaws.{rank_of, least-held, total_of, choice-of, bare-most}
use Rattle.rdp_repair.proofs.TabulateLaws.{holds-all, tabulate-same, tabulate-most}
use Rattle.rdp_repair.proofs.plan.row_before.Goals as goal

pub synced_ranks-synced-requires : goal.synced_ranks-synced-requires
synced_ranks-synced-requires c =
    subst (Bounded 0x2000000) (sym c.bare_ranks-ranks.ensures)
    (tabulate-most 16 _ _ (bare-most c.args.number (λ k. get_or c.args.after k 0) c.requires.1 0))

pub returns : goal.returns
unfolding totals_of choices_of
returns c =
    let n : ℕ = c.args.number in
    let f : ℕ → ℕ = λ k. get_or c.args.after k 0 in
    let r : ℕ → ℕ = λ j. min (get_or c.bare_ranks-ranks.result j 0) (get_or c.synced_ranks-synced.result (j % 4) 0) in
    let rank : (j : ℕ) → j < 16 → r j ≡ rank_of (chosen n f j) =
    λ j h. least-held n f c.requires.1 j _ _ c.bare_ranks-ranks.ensures c.synced_ranks-synced.ensures h in
    let all : c.loop-m.m ≡ 16 = omega arith in
    let inv = c.loop-m.invariant in
    record {
      totals-are =
          holds-all c.loop-m.totals (λ j. r j / 64) 16 inv.0 (rw all at inv.2) ∙
          tabulate-same 16 (λ j. r j / 64) (λ j. (chosen n f j).total) (λ j h. ap (λ (x : ℕ). x / 64) (rank j h) ∙ total_of n f c.requires.1 j);
      choices-are =
          holds-all c.loop-m.choices (λ j. r j % 64) 16 inv.1 (rw all at inv.3) ∙
          tabulate-same 16 (λ j. r j % 64) (λ j. packed_choice (chosen n f j)) (λ j h. ap (λ (x : ℕ). x % 64) (rank j h) ∙ choice-of n f c.requires.1 j);
    }
