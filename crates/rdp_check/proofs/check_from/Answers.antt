-- `rdp_check::check_from` meets its contract, by the walk from the checkpoint's view. Assumes nothing.
use Rattle.std.proofs.Common.{◌∙◌}
use Rattle.rdp_check.proofs.OnwardLaws.{from-over, from-stop}
use Rattle.rdp_check.proofs.check_from.Goals as goal

pub returns-then-bytes-gt-MOST_BYTES : goal.returns-then-bytes-gt-MOST_BYTES
returns-then-bytes-gt-MOST_BYTES c = from-over _ _ c.if-bytes-gt-MOST_BYTES.true

pub returns : goal.returns
returns c =
    (λ i.
    record { number = (c.outcome.ensures i).number; place = (c.outcome.ensures i).place; hazards = c.hazards_after-after.result; ended = c.stop_from-stop.result.view.rest.ended }) ∙
    from-stop _ _ c.if-bytes-gt-MOST_BYTES.false _ c.stop_from-stop.ensures _ c.hazards_after-after.ensures
