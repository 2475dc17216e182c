-- `rdp_fill::is_inside` meets its contract. Assumes nothing.
use Rattle.std.proofs.Common.{◌∙◌}
use Rattle.rdp_fill.proofs.AreaLaws.{inside-area}
use Rattle.rdp_fill.proofs.is_inside.Goals as goal

pub returns : goal.returns
returns c =
    let s = c.args in
    c.is_inside.ensures ∙ inside-area s.fill _ c.of.ensures s.start s.len
