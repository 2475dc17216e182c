-- After i turns the first i bytes are the pixel's. Assumes nothing.
use Rattle.std.proofs.Common.{◌≡◌, take}
use Rattle.rdp_view.proofs.pixels.put.Given as goal

abbrev pub invariant-loop-i : goal.invariant-loop-i
invariant-loop-i l = take l.i l.part ≡ take l.i l.pixel
