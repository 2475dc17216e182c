-- Each way by the law of the tests that led there. Assumes nothing.
use Rattle.std.proofs.Common.{◌≡◌, sym, ap, ◌∙◌}
use Rattle.rdp_fill.specs.Runs.{Area}
use Rattle.rdp_fill.proofs.InsideLaws.{inside-empty, inside-early, inside-late}
use Rattle.rdp_fill.proofs.areas.Area.is_inside.Goals as goal

pub returns-then-is_empty : goal.returns-then-is_empty
returns-then-is_empty c =
    let s = c.args in
    sym (inside-empty s.self.now s.start s.len (sym c.is_empty.ensures ∙ c.if-is_empty.true))

pub returns-then-self-start : goal.returns-then-self-start
returns-then-self-start c =
    let s = c.args in
    sym (inside-early s.self.now s.start s.len (sym c.is_empty.ensures ∙ c.if-is_empty.false) (rw (← c.self.view_is) c.if-self-start.true))

pub returns : goal.returns
returns c =
    let s = c.args in
    let first : c.self.inside.first ≡ s.self.now.first = ap (λ (a : Area). a.first) c.self.view_is in
    rw first
    (inside-late s.self.now s.start s.len (sym c.is_empty.ensures ∙ c.if-is_empty.false) (rw first at c.if-self-start.false) _ c.extent.ensures.0)
