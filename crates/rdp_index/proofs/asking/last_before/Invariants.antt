-- `rdp_index::asking::last_before` meets its contract: of the entries before i the last that counts is that of all. Assumes nothing.
use Rattle.std.proofs.Common.{◌≡◌, ◌/◌, length}
use Rattle.rdp_index.specs.Index.{last_before}
use Rattle.rdp_index.proofs.asking.last_before.Given as goal

abbrev pub invariant-loop-i : goal.invariant-loop-i
invariant-loop-i l = last_before l.place l.entries l.i ≡ last_before l.place l.entries (length l.entries / 2)
