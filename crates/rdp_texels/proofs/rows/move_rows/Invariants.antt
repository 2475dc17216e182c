-- `rdp_texels::rows::move_rows` meets its contract. The invariant stands first. Assumes nothing.
use Rattle.rdp_texels.specs.Views.{gridded, spanned}
use Rattle.rdp_texels.proofs.LoopLaws.{Due}
use Rattle.rdp_texels.proofs.TurnLaws.{flag}
use Rattle.rdp_texels.proofs.rows.move_rows.Given as goal

abbrev pub invariant-loop-y : goal.invariant-loop-y
invariant-loop-y g l = Due (flag g.row.INTO) (gridded l.texels) (spanned l.texels.window) l.from l.initial.to l.to l.y
