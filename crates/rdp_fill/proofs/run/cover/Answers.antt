-- Whole blocks, and the end where they do not reach it. Assumes nothing.
use Rattle.std.proofs.Common.{arith}
use Rattle.rdp_fill.proofs.PatternLaws.{follows-less}
use Rattle.rdp_fill.proofs.run.cover.Goals as goal

pub returns-then-reached-run : goal.returns-then-reached-run
returns-then-reached-run g c = follows-less _ (c.end.ensures c.blocks-reached.result (omega arith) c.blocks-reached.ensures.bytes) (omega arith)

pub returns-else-reached-run : goal.returns-else-reached-run
returns-else-reached-run g c = follows-less _ c.blocks-reached.ensures.bytes (omega arith)
