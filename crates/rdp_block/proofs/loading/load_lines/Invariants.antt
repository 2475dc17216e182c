-- `rdp_block::loading::load_lines` meets its contract. The loop's invariant: what is still to come of the texels gives what was promised. Assumes nothing.
use Rattle.std.proofs.Common.{◌-◌}
use Rattle.rdp_block.specs.Views.{stripped}
use Rattle.rdp_block.proofs.StripLaws.{Due}
use Rattle.rdp_block.proofs.loading.load_lines.Given as goal

abbrev pub invariant-loop-k : goal.invariant-loop-k
invariant-loop-k l = Due (stripped l.block) l.block.start l.first l.count l.memory l.initial.texture l.texture l.k

abbrev pub decreases-loop-k : goal.decreases-loop-k
decreases-loop-k l = l.count - l.k
