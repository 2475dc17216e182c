-- `rdp_draw::acting::act` meets its contract. Assumes nothing.
use Rattle.rdp_draw.proofs.DrawLaws.{fill-left, copy-left, load-left, block-left}
use Rattle.rdp_draw.proofs.acting.act.Goals as goal

pub returns-then-at-eq54 : goal.returns-then-at-eq54
returns-then-at-eq54 c =
    let a = c.args in
    fill-left a.start a.memory.now a.texture.now a.file.now a.list.now a.at.place a.at.number c.requires.number_value c.if-at-eq54.true _
    c.fill_at.ensures _ c.paint.ensures

pub copy_at-requires : goal.copy_at-requires
copy_at-requires c = c.requires.place_bound.0

pub returns-then-at-eq36 : goal.returns-then-at-eq36
returns-then-at-eq36 c =
    let a = c.args in
    let p = c.requires in
    copy-left a.start a.memory.now a.texture.now a.file.now a.list.now a.at.place a.at.number p.number_value p.place_bound.1 c.if-at-eq36.true _
    c.copy_at.ensures _ c.copy_rectangle.ensures.memory

pub returns-then-at-eq52 : goal.returns-then-at-eq52
returns-then-at-eq52 c =
    let a = c.args in
    let p = c.requires in
    load-left a.start a.memory.now a.texture.now a.file.now a.list.now a.at.place a.at.number p.number_value p.place_bound.1 _
    c.load_at-load.ensures c.if-at-eq52.true _ c.load_tile.ensures.texture

pub returns : goal.returns
returns c =
    let a = c.args in
    let p = c.requires in
    block-left a.start a.memory.now a.texture.now a.file.now a.list.now a.at.place a.at.number p.number_value p.place_bound.1 _
    c.load_at-load.ensures c.if-at-eq54.false c.if-at-eq36.false c.if-at-eq52.false _ c.load_block.ensures.texture
