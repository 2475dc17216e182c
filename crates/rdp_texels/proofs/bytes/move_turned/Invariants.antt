-- `rdp_texels::bytes::move_turned` meets its contract. The invariant stands first. Assumes nothing.
use Rattle.std.proofs.Common.{not}
use Rattle.rdp_texels.proofs.PartLaws.{Taken}
use Rattle.rdp_texels.proofs.TurnLaws.{flag}
use Rattle.rdp_texels.proofs.bytes.move_turned.Given as goal

abbrev pub invariant-loop-k : goal.invariant-loop-k
invariant-loop-k g l = Taken (flag g.row.INTO) (not (flag g.row.INTO)) l.run.s l.run.d l.a l.k l.from l.initial.to l.to
