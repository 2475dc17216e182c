-- `rdp_texels::rows::move_row` meets its contract. Assumes nothing.
use Rattle.std.proofs.Common.{length, sym, ◌∙◌}
use Rattle.rdp_texels.specs.Views.{gridded, spanned}
use Rattle.rdp_texels.proofs.LoopLaws.{row-starts, row-ready, row-moved}
use Rattle.rdp_texels.proofs.RowLaws.{moved-none}
use Rattle.rdp_texels.proofs.TurnLaws.{flag}
use Rattle.rdp_texels.proofs.rows.move_row.Goals as goal

pub row-requires : goal.row-requires
row-requires g c =
    let s = c.args in
    let t = s.texels in
    let p = c.requires in
    (p.2, row-starts (gridded t) (spanned t.window) s.y p.1 p.2 (flag g.row.INTO) (length s.from.now) (length s.to.now) p.0)

pub move_run-requires : goal.move_run-requires
move_run-requires g c =
    let s = c.args in
    let t = s.texels in
    let p = c.requires in
    rw c.row.ensures (row-ready (gridded t) (spanned t.window) s.y p.1 p.2 (flag g.row.INTO) (length s.from.now) (length s.to.now) p.0)

pub returns-then-row_kept : goal.returns-then-row_kept
returns-then-row_kept g c =
    let s = c.args in
    let t = s.texels in
    let p = c.requires in
    rw (sym c.row_kept.ensures ∙ c.if-row_kept.true)
    (c.move_run.ensures ∙ rw c.row.ensures (row-moved (gridded t) (spanned t.window) s.y p.1 p.2 (flag g.row.INTO) s.from.now s.to.now p.0))

pub returns : goal.returns
returns g c =
    let s = c.args in
    rw (sym c.row_kept.ensures ∙ c.if-row_kept.false) (moved-none (flag g.row.INTO) s.texels.memory.low s.from.now s.to.now)
