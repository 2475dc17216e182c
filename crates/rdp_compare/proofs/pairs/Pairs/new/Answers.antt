use Rattle.std.proofs.Common.{arith}
use Rattle.rdp_check.proofs.JoinLaws.{words_inside}
use Rattle.rdp_compare.proofs.pairs.Pairs.new.Goals as goal

pub invariant_of-result : goal.invariant_of-result
invariant_of-result c =
    record { one = omega (arith, words_inside c.args.first.now, c.requires.0); two = omega (arith, words_inside c.args.second.now, c.requires.1) }
