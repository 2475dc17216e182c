-- After some turns so many runs are written. Assumes nothing.
use Rattle.std.proofs.Common.{◌≡◌, ◌+◌}
use Rattle.rdp_fill.specs.Fill.{color_byte}
use Rattle.rdp_fill.specs.Runs.{in_runs}
use Rattle.rdp_pixels.specs.Overlay.{overlay}
use Rattle.rdp_fill.proofs.run.paint_with.Given as goal

abbrev pub invariant-loop-row : goal.invariant-loop-row
invariant-loop-row g l =
    l.memory ≡ overlay (in_runs l.from l.size l.stride l.row) (λ i. color_byte l.fn.color (l.fn.runs.start + i)) 0 l.initial.memory
