-- `rdp_check::walk::own_refusal` meets its contract, by two tests over the command numbers. Assumes nothing.
use mathlib.Core.Path.{sym, ◌∙◌}
use Rattle.rdp_words.proofs.KindLaws.{draws-among, unassigned-among}
use Rattle.rdp_check.proofs.walk.own_refusal.Goals as goal

pub returns-then-is_among : goal.returns-then-is_among
returns-then-is_among c = rw (sym (unassigned-among _ c.requires) ∙ sym c.is_among.ensures ∙ c.if-is_among.true)

pub returns-then-is_among-2 : goal.returns-then-is_among-2
returns-then-is_among-2 c =
    let small = c.requires in
    let stray = sym (unassigned-among _ small) ∙ sym c.is_among.ensures ∙ c.if-is_among.false in
    let draw = sym (draws-among _ small) ∙ sym c.is_among-2.ensures ∙ c.if-is_among-2.true in
    c.draw_refusal.ensures ∙ rw (stray, draw)

pub returns : goal.returns
returns c =
    let small = c.requires in
    let stray = sym (unassigned-among _ small) ∙ sym c.is_among.ensures ∙ c.if-is_among.false in
    let draw = sym (draws-among _ small) ∙ sym c.is_among-2.ensures ∙ c.if-is_among-2.false in
    rw (stray, draw)
