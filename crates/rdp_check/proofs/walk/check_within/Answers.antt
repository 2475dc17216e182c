-- `rdp_check::walk::check_within` meets its contract: refusals 1 and 2 by their tests, the others by the walk from the first view on. Assumes nothing.
use mathlib.Core.Path.{◌≡◌, ap, sym, ◌∙◌}
use Rattle.std.specs.Prelude.{Err}
use Rattle.rdp_words.specs.Grounds.{number_if}
use native.Mathlib.Omega.{arith}
use lib.Dec.{lit<}
use borrow.Author.Tests.{lt-ltb, le-ltb, eq-eqb, ne_eqb}
use Rattle.rdp_check.specs.Cause.{cause_of}
use Rattle.rdp_check.specs.Check.{outcome_within, checked, checked_in}
use Rattle.rdp_check.specs.View.{stopped, refusals_by}
use Rattle.rdp_check.proofs.walk.check_within.Goals.{After-walk_on-caused}
use Rattle.rdp_check.proofs.StopLaws.{list-seen, first-view, shown_of, shown}
use Rattle.rdp_check.proofs.walk.check_within.Goals as goal

pub returns-then-most-len : goal.returns-then-most-len
unfolding outcome_within cause_of
returns-then-most-len c = ap (λ r. checked_in c.args.list.now (Err r)) c.unjudged.ensures ∙ rw (lt-ltb _ _ c.if-most-len.true)

pub returns-then-len-ne0 : goal.returns-then-len-ne0
unfolding outcome_within cause_of
returns-then-len-ne0 c = ap (λ r. checked_in c.args.list.now (Err r)) c.unjudged-then-len-ne0.ensures ∙ rw (le-ltb _ _ c.if-most-len.false, ne_eqb _ _ c.if-len-ne0.true)

pub walk_on-caused-requires : goal.walk_on-caused-requires
walk_on-caused-requires c =
    (c.if-len-ne0.false, (omega (arith, c.if-most-len.false, c.requires), (lit< tt, λ e. first-view _ c.no_rest-rest.ensures)))

-- what the check shows of the walk's judgement
answer : (c : After-walk_on-caused) → shown_of c.args.list.now (stopped c.walk_on-caused.result.stop) ≡ checked c.args.list.now (outcome_within c.args.most (refusals_by c.args.strict) c.args.list.now)
unfolding outcome_within
answer c =
    let list = c.args.list.now in
    let seen = list-seen c.args.strict list _ (first-view _ c.no_rest-rest.ensures) _ (ap (λ q. q.stop) c.walk_on-caused.ensures) in
    rw (le-ltb _ _ c.if-most-len.false, eq-eqb _ _ c.if-len-ne0.false) (ap (shown_of list) seen ∙ shown list _)

pub returns-in-None : goal.returns-in-None
unfolding cause_of
returns-in-None c =
    (λ i.
    let n = sym (ap number_if c.in-None.is) i in
    record {
      number = n;
      place = c.walk_on-caused.result.stop.place;
      hazards = c.walk_on-caused.result.stop.view.hazards;
      cause = cause_of c.args.list.now n c.walk_on-caused.result.stop.place;
    }) ∙
    answer (goal.at.returns-in-None c).After-walk_on-caused

pub returns-in-Some : goal.returns-in-Some
returns-in-Some c =
    let e = c.walk_on-caused.ensures in
    (λ i.
    record {
      number = sym (ap number_if c.in-Some.is) i;
      place = c.walk_on-caused.result.stop.place;
      hazards = c.walk_on-caused.result.stop.view.hazards;
      cause = (ap (λ q. q.cause) e ∙ sym (ap (λ q. cause_of c.args.list.now q.stop.number q.stop.place) e)) i;
    }) ∙
    answer (goal.at.returns-in-Some c).After-walk_on-caused
