-- `rdp_texels::bytes::exchange_groups` meets its contract. The invariant stands first. Assumes nothing.
use Rattle.std.proofs.Common.{◌*◌, false, true, drop}
use Rattle.rdp_texels.proofs.PartLaws.{Taken}
use Rattle.rdp_texels.proofs.bytes.exchange_groups.Given as goal

abbrev pub invariant-loop-i : goal.invariant-loop-i
invariant-loop-i l = Taken false true 0 l.d 0 (8 * l.i) (drop l.s l.from) l.initial.to l.to
