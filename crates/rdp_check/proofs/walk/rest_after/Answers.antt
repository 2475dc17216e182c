-- `rdp_check::walk::rest_after` meets its contract: a line for each number that sets something. Assumes nothing.
use borrow.Author.Tests.{ne_eqb}
use Rattle.rdp_check.specs.View.{rest_after}
use Rattle.rdp_check.proofs.walk.rest_after.Goals as goal

pub returns-in-41 : goal.returns-in-41
unfolding rest_after
returns-in-41 c = rw c.in-41.is

pub returns-in-45 : goal.returns-in-45
unfolding rest_after
returns-in-45 c = rw c.in-45.is

pub returns-in-47 : goal.returns-in-47
unfolding rest_after
returns-in-47 c = rw (c.set_code-r.ensures, c.in-47.is)

pub returns-in-63 : goal.returns-in-63
unfolding rest_after
returns-in-63 c = rw (c.set_code-r-in-63.ensures, c.in-63.is)

pub returns-in_default : goal.returns-in_default
unfolding rest_after
returns-in_default c =
    let n = c.in_default.in_default-own.rest in
    rw (ne_eqb _ _ n.0.0.0.1, ne_eqb _ _ n.0.0.1, ne_eqb _ _ n.0.1, ne_eqb _ _ n.1)
