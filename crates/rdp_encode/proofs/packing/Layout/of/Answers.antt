use Rattle.rdp_encode.proofs.TableLaws.{lines-readable}
use Rattle.rdp_encode.proofs.packing.Layout.of.Goals as goal

pub invariant_of-result : goal.invariant_of-result
invariant_of-result c = record { readable = lines-readable c.lines_of.result.now c.args.number c.requires c.lines_of.ensures }
