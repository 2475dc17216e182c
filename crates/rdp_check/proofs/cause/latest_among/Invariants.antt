-- `rdp_check::cause::latest_among` meets its contract: from what was found, the latest of what is left is the answer. The measure is what is left of the
-- words. Assumes nothing.
use Rattle.std.proofs.Common.{[], ◌≡◌, ◌-◌, ◌*◌, drop}
use Rattle.rdp_check.specs.Commands.{rest_of}
use Rattle.rdp_check.proofs.CauseLaws.{Seeking}
use Rattle.rdp_check.proofs.cause.latest_among.Given as goal

abbrev pub invariant-loop-at : goal.invariant-loop-at
invariant-loop-at l = Seeking l.numbers l.list l.other (drop (8 * l.at) l.list) l.at l.found × (rest_of (drop (8 * l.at) l.list) ≡ [])

abbrev pub decreases-loop-at : goal.decreases-loop-at
decreases-loop-at l = l.words - l.at
