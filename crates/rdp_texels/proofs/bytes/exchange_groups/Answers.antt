-- `rdp_texels::bytes::exchange_groups` meets its contract. The invariant stands first. Assumes nothing.
use Rattle.rdp_texels.proofs.PartLaws.{taken_none}
use Rattle.rdp_texels.proofs.ExchangeLaws.{both-eight, slice-eight, exchanged-more}
use Rattle.std.proofs.Common.{◌+◌, ◌*◌, ◌∙◌, arith}
use Rattle.rdp_texels.proofs.bytes.exchange_groups.Goals as goal

pub loop-i-init : goal.loop-i-init
loop-i-init c = taken_none

pub loop-i-preserved : goal.loop-i-preserved
loop-i-preserved c =
    let a = c.args in
    exchanged-more a.s a.d c.loop-i.i a.from.now c.loop-i.invariant (omega arith) (omega arith)
    (c.move_eight.ensures ∙ both-eight _ _ (slice-eight (a.s + 8 * c.loop-i.i) a.from.now (omega arith))
    (slice-eight (a.d + 8 * c.loop-i.i) c.loop-i.to (omega (arith, c.loop-i.auto.to))))
