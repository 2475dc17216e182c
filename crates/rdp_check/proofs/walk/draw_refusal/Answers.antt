-- `rdp_check::walk::draw_refusal` meets its contract, by its tests. Assumes nothing.
use Rattle.std.proofs.Common.{sym}
use Rattle.rdp_check.proofs.walk.draw_refusal.Goals as goal

pub returns-then-not-is_set-rest : goal.returns-then-not-is_set-rest
returns-then-not-is_set-rest c = rw (sym c.is_set.ensures, sym c.is_set-2.ensures, c.if-not-is_set-rest.true)

pub returns-then-is_special : goal.returns-then-is_special
returns-then-is_special c =
    rw (sym c.is_set.ensures, sym c.is_set-2.ensures, c.if-not-is_set-rest.false, sym c.is_special.ensures, sym c.is_special-2.ensures, c.if-is_special.true)

pub returns : goal.returns
returns c =
    rw (sym c.is_set.ensures, sym c.is_set-2.ensures, c.if-not-is_set-rest.false, sym c.is_special.ensures, sym c.is_special-2.ensures, c.if-is_special.false)
