-- `rdp_state::updates::tiles_of` meets its contract: each tile is read out of its two words. Assumes nothing.
use Rattle.std.proofs.Common.{[], ◌∷◌}
use Rattle.rdp_state.proofs.updates.tiles_of.Goals as goal

pub returns : goal.returns
returns c =
    λ i. c.tile_at.ensures i ∷ c.tile_at-2.ensures i ∷ c.tile_at-3.ensures i ∷ c.tile_at-4.ensures i ∷ c.tile_at-5.ensures i ∷ c.tile_at-6.ensures i ∷ c.tile_at-7.ensures i ∷ c.tile_at-8.ensures i ∷ []
