-- `rdp_repair::plan::synced_rank` meets its contract: the calls nest as the definition does. Assumes nothing.
use Rattle.std.proofs.Common.{◌∙◌, ◌+◌, min, get_or}
use Rattle.rdp_repair.specs.Plan.{sync_at, wait_of}
use Rattle.rdp_repair.specs.Work.{option_rank, synced_rank}
use Rattle.rdp_repair.proofs.plan.synced_rank.Goals as goal

pub returns : goal.returns
unfolding synced_rank wait_of sync_at
returns c =
    let a = c.args in
    c.better.ensures ∙ (λ i. min (get_or a.ranks.now a.m 0 + option_rank 1) (c.better-tile.ensures i))
