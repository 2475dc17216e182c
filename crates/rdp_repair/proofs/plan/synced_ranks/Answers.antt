-- `rdp_repair::plan::synced_ranks` meets its contract, by that of `synced_rank`. Assumes nothing.
use Rattle.std.proofs.Common.{[], ◌∷◌}
use Rattle.rdp_repair.specs.Work.{tabulate}
use Rattle.rdp_repair.proofs.plan.synced_ranks.Goals as goal

pub returns : goal.returns
unfolding tabulate
returns c =
    λ i.
    c.synced_rank-none.ensures i ∷
    c.synced_rank-pipe.ensures i ∷ c.synced_rank-tile.ensures i ∷ c.synced_rank-both.ensures i ∷ []
