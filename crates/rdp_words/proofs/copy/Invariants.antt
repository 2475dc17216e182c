-- `rdp_words::copy` meets its contract: after i turns the first i bytes are copied. Assumes nothing.
use Prim.Native.Nat.{◌≤◌, ◌-◌}
use mathlib.Core.Path.{◌≡◌}
use lib.ListN.{length}
use Rattle.rdp_words.proofs.OverwriteLaws.{copied}
use Rattle.rdp_words.proofs.copy.Given as goal

abbrev pub invariant-loop-i : goal.invariant-loop-i
invariant-loop-i l = (l.i ≤ length l.src) × (l.i ≤ length l.initial.out) × (l.out ≡ copied l.initial.out l.src l.i)

abbrev pub decreases-loop-i : goal.decreases-loop-i
decreases-loop-i l = length l.src - l.i
