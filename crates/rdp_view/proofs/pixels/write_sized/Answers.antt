-- Each pixel is written after those before it. Assumes nothing.
use Rattle.std.proofs.Common.{arith, sym, ap, ◌∙◌, take}
use Rattle.rdp_words.proofs.OverwriteLaws.{overwrite-none}
use Rattle.rdp_view.specs.View.{pixels}
use Rattle.rdp_view.proofs.PixelLaws.{pixel-written}
use Rattle.rdp_view.proofs.pixels.write_sized.Goals as goal

pub loop-k-init : goal.loop-k-init
unfolding pixels
loop-k-init c = sym (overwrite-none c.args.out.now)

pub loop-k-preserved : goal.loop-k-preserved
loop-k-preserved c =
    pixel-written _ c.bytes-step.result c.loop-k.k _ _ _ _ _ c.bytes-step.ensures.0 c.loop-k.invariant
    (c.put.ensures ∙ ap (take 4) c.first_pixel-pixel.ensures)
    (omega arith)
