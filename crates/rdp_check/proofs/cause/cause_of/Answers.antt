-- `rdp_check::cause::cause_of` meets its contract: at 7 to 9 the refused command has a place and the commands before it are whole. Assumes nothing.
use Rattle.std.proofs.Common.{not, ap, sym, subst, rules}
use native.Mathlib.Nat.{sub-zero}
use Rattle.rdp_words.specs.Grounds.{number_if}
use Rattle.rdp_check.specs.Cause.{awaited}
use Rattle.rdp_check.specs.View.{Numbers}
use Rattle.rdp_check.proofs.CauseLaws.{Missing, cause-else, missing-of, place_inside, rest-before, cause-sought}
use Rattle.rdp_check.proofs.cause.cause_of.Goals.{After-number_at-number}
use Rattle.rdp_check.proofs.cause.cause_of.Goals as goal

-- a command misses a sync at the place
missing : (c : After-number_at-number) → Missing c.args.list.now c.args.place
missing c = missing-of _ (number_if c.args.refused) _ c.args.whole (rw (sym c.misses_sync.ensures) (ap not c.if-not-whole-misses_sync.false)) c.requires

pub returns-then-not-whole-misses_sync : goal.returns-then-not-whole-misses_sync
returns-then-not-whole-misses_sync c = let a = c.args in cause-else a.list.now (number_if a.refused) a.place a.whole (rw (sym c.misses_sync.ensures) (ap not c.if-not-whole-misses_sync.true))

pub slice_bounds-latest_among-end : goal.slice_bounds-latest_among-end
slice_bounds-latest_among-end c = let inside = place_inside (missing (goal.at.slice_bounds-latest_among-end c).After-number_at-number) in search (rules, inside)

pub latest_among-requires : goal.latest_among-requires
latest_among-requires c = rw sub-zero (rest-before (missing (goal.at.latest_among-requires c).After-number_at-number))

pub returns : goal.returns
returns c =
    let a = c.args in
    let sought = rw sub-zero at c.latest_among.ensures in
    cause-sought a.list.now (number_if a.refused) a.place a.whole (rw (sym c.misses_sync.ensures) (ap not c.if-not-whole-misses_sync.false)) _ (subst (λ n. Numbers c.awaited_by-numbers.result (awaited n).sets) c.number_at-number.ensures c.awaited_by-numbers.ensures) _ sought
