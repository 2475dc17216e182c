use Rattle.rdp_compare.proofs.GroundLaws.{too_long, not-words, by-cut}
use Rattle.rdp_compare.proofs.grounds.first_ground.Goals as goal

pub returns-then-len-gt-MOST_BYTES : goal.returns-then-len-gt-MOST_BYTES
returns-then-len-gt-MOST_BYTES c = too_long c.args.list.now c.if-len-gt-MOST_BYTES.true

pub returns-then-len-ne0 : goal.returns-then-len-ne0
returns-then-len-ne0 c = not-words c.args.list.now c.if-len-gt-MOST_BYTES.false c.if-len-ne0.true

pub returns : goal.returns
returns c = by-cut c.args.list.now c.if-len-gt-MOST_BYTES.false c.if-len-ne0.false c.cut_at.ensures
