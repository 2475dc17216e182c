-- `rdp_stream::arrival::Arrival::hold` meets its contract: the bytes are held, with zeros after them. Assumes nothing.
use Rattle.std.proofs.Common.{length, refl, ◌∙◌, arith}
use Rattle.rdp_stream.proofs.HeldLaws.{paste-zeros, padded-open}
use Rattle.rdp_stream.proofs.FeedLaws.{cut_short}
use Rattle.rdp_stream.proofs.arrival.Arrival.hold.Goals as goal

pub fill-held-requires : goal.fill-held-requires
fill-held-requires c = let few = cut_short c.args.rest.now c.requires.1.0 in (omega arith, omega arith)

pub invariant_of-self : goal.invariant_of-self
invariant_of-self c =
    let rest = c.args.rest.now in
    let before = c.args.self.now.sound in
    record {
      sound =
          padded-open rest _ (length rest) (c.fill-held.ensures ∙ paste-zeros 176 (length rest) rest refl) refl _ (cut_short rest c.requires.1.0) c.requires.1.0 (omega arith)
          (omega (arith, before.whole, c.requires.0)) c.requires.1.1;
    }
