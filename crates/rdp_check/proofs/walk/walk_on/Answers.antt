-- `rdp_check::walk::walk_on` meets its contract: of a whole list the walk shows the judgement, so a second walk finds its cause. Assumes nothing.
use mathlib.Core.Bool.{cond}
use mathlib.Core.Path.{ap, ◌∙◌}
use Prim.Native.Nat.{◌/◌}
use native.Mathlib.Omega.{arith}
use lib.ListN.{length}
use Rattle.rdp_check.specs.Cause.{cause_of}
use Rattle.rdp_check.specs.View.{stopped}
use Rattle.rdp_check.proofs.StopLaws.{list-seen}
use Rattle.rdp_check.proofs.walk.walk_on.Goals as goal

pub walk-stop-requires : goal.walk-stop-requires
walk-stop-requires c =
    (omega (arith, c.requires.0), (omega (arith, c.requires.1.0), c.requires.1.1.0))

pub cause_of-cause-requires : goal.cause_of-cause-requires
cause_of-cause-requires c =
    λ whole.
    let e = list-seen c.args.strict c.args.list.now c.args.view (c.requires.1.1.1 whole) (stopped c.walk-stop.result) c.walk-stop.ensures in
    record { strict = c.args.strict; is_number = ap (λ q. q.number) e; is-place = ap (λ q. q.place) e }

pub returns : goal.returns
returns c =
    let whole = c.args.whole in
    let list = c.args.list.now in
    let e = c.walk-stop.ensures in
    let cause = c.cause_of-cause.ensures ∙ (λ i. cond whole (cause_of list (e i).number (e i).place) (length list / 8)) in
    λ i. record { stop = e i; cause = cause i }
