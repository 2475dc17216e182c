-- The parts are those of the definition. Assumes nothing.
use Rattle.rdp_fill.specs.Fill.{pixel_address}
use Rattle.rdp_fill.specs.Runs.{area_of}
use Rattle.rdp_fill.proofs.areas.Area.of.Goals as goal

pub returns : goal.returns
unfolding area_of pixel_address
returns c = cc
