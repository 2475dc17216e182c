use Rattle.std.proofs.Common.{eq-eqb}
use Rattle.rdp_encode.specs.Table.{line_of}
use Rattle.rdp_encode.proofs.PackLaws.{placed_at}
use Rattle.rdp_encode.proofs.table.BitLine.placed.Goals as goal

pub returns-then-self-word : goal.returns-then-self-word
returns-then-self-word c = rw (eq-eqb _ _ c.if-self-word.true) (placed_at (line_of c.args.self) c.requires c.args.n c.width.ensures)
