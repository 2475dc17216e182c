-- `rdp_check::walk::no_rest` meets its contract, which computes. Assumes nothing.
use mathlib.Core.Path.{refl}
use Rattle.rdp_check.specs.Registers.{no_registers}
use Rattle.rdp_check.specs.View.{view_of}
use Rattle.rdp_check.proofs.walk.no_rest.Goals as goal

pub returns : goal.returns
unfolding view_of no_registers
returns c = refl
