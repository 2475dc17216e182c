-- `rdp_repair::plan::bare_ranks` meets its contract: after m turns the first m ranks stand. Assumes nothing.
use Rattle.std.proofs.Common.{◌≡◌, ◌∙◌, ℕ, arith, length, get_or, length-set}
use Rattle.rdp_repair.specs.Work.{bare_rank}
use Rattle.rdp_repair.proofs.RankLaws.{bare-is}
use Rattle.rdp_repair.proofs.TabulateLaws.{holds_more, holds-all}
use Rattle.rdp_repair.proofs.plan.bare_ranks.Goals as goal

pub loop-m-preserved : goal.loop-m-preserved
loop-m-preserved c =
    let a = c.args in
    let f : ℕ → ℕ = λ k. get_or a.after.now k 0 in
    let long : length c.loop-m.ranks ≡ 16 = c.loop-m.invariant.0 in (
      simp length-set long,
      holds_more c.loop-m.ranks (bare_rank a.number f) c.loop-m.m _ (omega arith) c.loop-m.invariant.1
          (c.bare_rank.ensures ∙ bare-is c.loop-m.m a.number _ c.requires.0 (a.table.now.agrees c.loop-m.m a.number c.loop-m-test.true c.requires.0) f),
    )

pub returns : goal.returns
returns c =
    let all : c.loop-m.m ≡ 16 = omega arith in
    holds-all c.loop-m.ranks (bare_rank c.args.number (λ k. get_or c.args.after.now k 0)) 16 c.loop-m.invariant.0 (rw all at c.loop-m.invariant.1)
