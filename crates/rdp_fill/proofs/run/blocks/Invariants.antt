-- After k turns k blocks are written. Assumes nothing.
use Rattle.std.proofs.Common.{◌*◌}
use Rattle.rdp_fill.specs.Pattern.{Follows}
use Rattle.rdp_fill.proofs.run.blocks.Given as goal

abbrev pub invariant-loop-k : goal.invariant-loop-k
invariant-loop-k g l = Follows l.pattern l.run (g.row.N * l.k)
