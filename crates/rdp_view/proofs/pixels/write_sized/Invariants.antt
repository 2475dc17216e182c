-- After k turns the first k pixels are written. Assumes nothing.
use Rattle.std.proofs.Common.{◌≡◌}
use Rattle.rdp_words.specs.Words.{overwrite}
use Rattle.rdp_view.specs.Sizes.{size_number}
use Rattle.rdp_view.specs.View.{pixels}
use Rattle.rdp_view.proofs.pixels.write_sized.Given as goal

abbrev pub invariant-loop-k : goal.invariant-loop-k
invariant-loop-k l = l.out ≡ overwrite (pixels (size_number l.size) l.k l.image) l.initial.out
