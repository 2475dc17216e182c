-- `rdp_texels::bytes::move_eight` meets its contract. Assumes nothing.
use Rattle.std.proofs.Common.{sym, ◌∙◌}
use Rattle.rdp_texels.proofs.ExchangeLaws.{eight-stored, both-eight}
use Rattle.rdp_texels.proofs.bytes.move_eight.Goals as goal
use Rattle.rdp_texels.proofs.bytes.move_eight.Goals.{then-turned, else-turned, then-turned-2, else-turned-2}

pub returns : goal.returns
returns c =
    let s = c.args in
    let read = c.if-from-ne8.false in
    let wrote = c.if-to-ne8.false in
    eight-stored s.turned s.from.now s.to.now c.copy_from_slice.new.self c.copy_from_slice-2.new.self read wrote
    (c.copy_from_slice.ensures.after ∙
    elim c.if-turned.branch [ then-turned w ↦ rw (w.if-turned.true) w.first-is | else-turned w ↦ rw (w.if-turned.false) w.first-is ])
    (c.copy_from_slice-2.ensures.after ∙
    elim c.if-turned-2.branch [ then-turned-2 w ↦ rw (w.if-turned-2.true) w.second-is | else-turned-2 w ↦ rw (w.if-turned-2.false) w.second-is ])
    ∙ sym (both-eight s.from.now s.to.now read wrote)
