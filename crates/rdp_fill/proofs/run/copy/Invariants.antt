-- After k turns the first k bytes are the pattern's. Assumes nothing.
use Rattle.std.proofs.Common.{◌≡◌, take}
use Rattle.rdp_fill.proofs.run.copy.Given as goal

abbrev pub invariant-loop-k : goal.invariant-loop-k
invariant-loop-k l = take l.k l.part ≡ take l.k l.pattern
