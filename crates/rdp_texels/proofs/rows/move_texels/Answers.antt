-- `rdp_texels::rows::move_texels` meets its contract. Assumes nothing.
use Rattle.std.proofs.Common.{sym, ◌∙◌}
use Rattle.rdp_texels.specs.Views.{gridded, spanned}
use Rattle.rdp_texels.proofs.LoopLaws.{none-moved}
use Rattle.rdp_texels.proofs.TurnLaws.{flag}
use Rattle.rdp_texels.proofs.rows.move_texels.Goals as goal

pub returns : goal.returns
returns g c =
    let s = c.args in
    none-moved (gridded s.texels) (spanned s.texels.window) (flag g.row.INTO) s.from.now s.to.now (sym c.is_some.ensures ∙ c.if-is_some.false)
