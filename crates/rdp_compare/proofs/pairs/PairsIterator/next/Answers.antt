use Rattle.std.proofs.Common.{arith}
use Rattle.rdp_compare.proofs.PairLaws.{own-command, words-left}
use Rattle.rdp_compare.proofs.pairs.PairsIterator.next.Goals as goal

pub invariant_of-self : goal.invariant_of-self
invariant_of-self c =
    let s = c.args.self.now in
    record {
      one = omega (arith, s.one, words-left s.first.0.now _ _ c.in_ok-one.ensures.steps);
      two = omega (arith, s.two, words-left s.second.0.now _ _ c.in_ok-two.ensures.steps);
    }

pub invariant_of-result : goal.invariant_of-result
invariant_of-result c =
    let s = c.args.self.now in
    record {
      one = own-command s.first.0.now _ _ c.in_ok-one.ensures.steps;
      two = own-command s.second.0.now _ _ c.in_ok-two.ensures.steps;
      few = (omega (arith, s.one), omega (arith, s.two));
    }
