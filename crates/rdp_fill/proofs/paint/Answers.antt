-- Each way leaves what the fill does. Assumes nothing.
use Rattle.std.proofs.Common.{◌≡◌, sym, ◌∙◌, length, true, false}
use Rattle.rdp_fill.specs.Runs.{area_empty, area_inside}
use Rattle.rdp_fill.proofs.InsideLaws.{inside-empty}
use Rattle.rdp_fill.proofs.AreaLaws.{leaves-painted, leaves_all, painted-empty, painted-runs, runs_fit}
use Rattle.rdp_fill.proofs.paint.Goals.{Then-is_inside}
use Rattle.rdp_fill.proofs.paint.Goals as goal

pub returns-then-is_empty : goal.returns-then-is_empty
returns-then-is_empty c =
    let s = c.args in
    let area = c.of-area in
    let none = sym c.is_empty.ensures ∙ c.if-is_empty.true in
    painted-empty s.fill _ area.ensures s.start s.memory.now none
    ∙ leaves-painted s.fill _ area.ensures s.start s.memory.now (inside-empty _ s.start _ none)

-- the area has a byte, and all are inside
module _ (c : Then-is_inside) where
  some : area_empty c.of-area.result ≡ false
  some = sym c.is_empty.ensures ∙ c.if-is_empty.false

  inside : area_inside c.of-area.result c.args.start (length c.args.memory.now) ≡ true
  inside = sym c.is_inside.ensures ∙ c.if-is_inside.true

pub runs_from-requires : goal.runs_from-requires
runs_from-requires c =
    let s = c.args in
    let at = (goal.at.runs_from-requires c).Then-is_inside in
    (runs_fit s.fill _ c.of-area.ensures s.start s.memory.now (some at) (inside at)).0

pub paint-requires : goal.paint-requires
paint-requires c =
    let s = c.args in
    let at = (goal.at.paint-requires c).Then-is_inside in
    rw c.runs_from.ensures (runs_fit s.fill _ c.of-area.ensures s.start s.memory.now (some at) (inside at)).1

pub returns-then-is_inside : goal.returns-then-is_inside
returns-then-is_inside c =
    let s = c.args in
    let area = c.of-area in
    let at = (goal.at.returns-then-is_inside c).Then-is_inside in
    painted-runs s.fill _ area.ensures s.start s.memory.now (some at) (inside at) (rw c.runs_from.ensures at c.paint.ensures)
    ∙ leaves-painted s.fill _ area.ensures s.start s.memory.now (inside at)

pub returns-else-is_inside : goal.returns-else-is_inside
returns-else-is_inside c =
    let s = c.args in
    leaves_all s.fill _ c.of-area.ensures s.start s.memory.now (sym c.is_inside.ensures ∙ c.if-is_inside.false)
