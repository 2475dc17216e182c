-- `rdp_stream::arrival::Arrival::release` meets its contract: no byte is held, and all are zero. Assumes nothing.
use Rattle.std.proofs.Common.{[], refl, arith}
use Rattle.rdp_stream.proofs.HeldLaws.{padded-open}
use Rattle.rdp_stream.proofs.PortionLaws.{none-whole}
use Rattle.rdp_stream.proofs.arrival.Arrival.release.Goals as goal

pub invariant_of-self : goal.invariant_of-self
invariant_of-self c =
    record { sound = padded-open [] _ 0 refl refl c.args.taken (omega arith) none-whole (omega arith) (omega (arith, c.requires.0)) c.requires.1 }
