use Rattle.std.proofs.Common.{◌≡◌}
use Rattle.rdp_words.specs.Words.{overwrite}
use Rattle.rdp_encode.specs.Encode.{packed_bytes}
use Rattle.rdp_encode.proofs.encoding.Packable.write_base.Given as goal

abbrev pub invariant-loop-k : goal.invariant-loop-k
invariant-loop-k l = l.out ≡ overwrite (packed_bytes l.self.number l.self.numbers.now l.k) l.initial.out
