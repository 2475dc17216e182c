-- `rdp_check::cause::awaited_by` meets its contract: a draw waits for loads, Set Tile for textured draws and loads, others for draws. Assumes nothing.
use Rattle.rdp_check.proofs.CauseLaws.{awaits-load, awaits-tile, awaits-draw}
use Rattle.rdp_check.proofs.cause.awaited_by.Goals as goal

pub returns-then-is_among : goal.returns-then-is_among
returns-then-is_among c = awaits-load _ c.requires _ c.is_among.ensures c.if-is_among.true

pub returns-then-number-eq53 : goal.returns-then-number-eq53
returns-then-number-eq53 c =
    awaits-tile _ c.requires _ c.is_among.ensures c.if-is_among.false c.if-number-eq53.true

pub returns : goal.returns
returns c =
    awaits-draw _ c.requires _ c.is_among.ensures c.if-is_among.false c.if-number-eq53.false
