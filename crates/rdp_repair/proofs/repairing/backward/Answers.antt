-- `rdp_repair::repairing::backward` meets its contract: the choices stand from command i on, and the totals are those from i on. Assumes nothing.
use Rattle.std.proofs.Common.{ℕ, List, ◌≡◌, suc, ◌+◌, ◌*◌, ◌-◌, ◌<◌, ◌≤◌, length, get_or, drop, refl, sym, ap, ◌∙◌, arith}
use Rattle.rdp_words.proofs.OverwriteLaws.{part-copied}
use Rattle.rdp_repair.specs.Best.{best}
use Rattle.rdp_repair.specs.Work.{tabulate, noted_in}
use Rattle.rdp_repair.proofs.BackLaws.{back_to, back_start, back_end, no-numbers-left, length_back, length-choices, number-below, totals-bounded, turn-totals, turn-work}
use Rattle.rdp_repair.proofs.repairing.backward.Goals.{After-row_before-row, In-loop-i}
use Rattle.rdp_repair.proofs.repairing.backward.Goals as goal

-- what a turn works on: the buffer as it was, the count, the command, and what the invariant says of them
module _ (c : In-loop-i) where
  abbrev first-work : List ℕ
  first-work = c.args.work.now

  abbrev count : ℕ
  count = c.args.commands

  abbrev index : ℕ
  index = c.loop-i.i - 1

  room : 16 * count ≤ length first-work
  room = c.requires.1

  same : c.loop-i.i ≡ suc index
  same = omega arith

  in-range : index < count
  in-range = omega arith

  is-now : c.loop-i.work ≡ back_to first-work count (suc index)
  is-now = c.loop-i.invariant.0 ∙ ap (back_to first-work count) same

  are-totals : c.loop-i.totals ≡ tabulate 16 (best (drop (suc index) (noted_in first-work count)))
  are-totals = c.loop-i.invariant.1 ∙ ap (λ (k : ℕ). tabulate 16 (best (drop k (noted_in first-work count)))) same

  length-now : length c.loop-i.work ≡ length first-work
  length-now = ap length is-now ∙ length_back first-work count room (suc index) (omega (arith, in-range))

sixteen : (row : After-row_before-row) → length row.row_before-row.result.choices ≡ 16
sixteen row = ap length row.row_before-row.ensures.choices-are ∙ length-choices _ _

pub loop-i-init : goal.loop-i-init
unfolding best tabulate
loop-i-init c =
    let work : List ℕ = c.args.work.now in
    let n : ℕ = c.args.commands in
    (sym (back_start work n c.requires.1), sym (ap (λ (ns : List ℕ). tabulate 16 (best ns)) (no-numbers-left work n c.requires.1)))

pub row_before-row-requires : goal.row_before-row-requires
row_before-row-requires c =
    let there = (goal.at.row_before-row-requires c).In-loop-i in (
      number-below (first-work there) (count there) (room there) (index there) (in-range there) _ (is-now there) _ (are-totals there) _ refl c.requires.2,
      totals-bounded (first-work there) (count there) (room there) (index there) (in-range there) _ (is-now there) _ (are-totals there) _ refl c.requires.0,
    )

pub loop-i-preserved : goal.loop-i-preserved
loop-i-preserved c =
    let there = (goal.at.loop-i-preserved c).In-loop-i in
    let at : ℕ = 16 * index there in (
      part-copied c.row_before-row.result.choices c.loop-i.work c.copy.new.out at (at + 16) (omega (arith, sixteen (goal.at.loop-i-preserved c).After-row_before-row))
          (omega (arith, length-now there, room there)) c.copy.ensures ∙
          turn-work (first-work there) (count there) (room there) (index there) (in-range there) _ (is-now there) _ (are-totals there) _ refl _ c.row_before-row.ensures.choices-are,
      turn-totals (first-work there) (count there) (room there) (index there) (in-range there) _ (is-now there) _ (are-totals there) _ refl _ c.row_before-row.ensures.totals-are,
    )

pub returns : goal.returns
unfolding tabulate
returns c =
    let end : c.loop-i.i ≡ 0 = omega arith in
    record {
      least = ap (λ (l : List ℕ). get_or l 0 0) (rw end at c.loop-i.invariant.1);
      choices = rw end at c.loop-i.invariant.0 ∙ back_end c.args.work.now c.args.commands c.requires.1;
    }
