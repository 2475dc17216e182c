-- `rdp_stream::arrival::Arrival::feed` meets its contract: the bytes for which there is room, and then 1. Assumes nothing.
use Rattle.std.specs.Option.{is_some}
use Rattle.std.proofs.Common.{ℕ, true, List, take, eqb, length, ◌≡◌, sym, ◌∙◌, ap, eqb-true}
use borrow.Author.Tests.{eqb-false}
use Rattle.rdp_words.proofs.Tests.{by-test, neither}
use Rattle.rdp_command.specs.Decode.{answer}
use Rattle.rdp_stream.specs.Portions.{Feeding, fed_bytes, remembering}
use Rattle.rdp_stream.specs.Arrivals.{known}
use Rattle.rdp_stream.proofs.PortionLaws.{fed-refused}
use Rattle.rdp_stream.proofs.RecordLaws.{part-all, part-refused, part-full}
use Rattle.rdp_stream.proofs.KnownLaws.{known-open, none-open, none_zero, some-refused}
use Rattle.rdp_stream.proofs.arrival.Arrival.feed.Goals as goal

pub returns-then-is_some : goal.returns-then-is_some
returns-then-is_some c =
    let a = c.args.self.now in
    sym (fed-refused (known a) c.args.portion.now (some-refused a.ground (sym c.is_some.ensures ∙ c.if-is_some.true)))

pub returns-then-fed-portion : goal.returns-then-fed-portion
returns-then-fed-portion c =
    let a = c.args.self.now in
    let portion : List ℕ = c.args.portion.now in
    let is-open = known-open a (none-open a.ground (sym c.is_some.ensures ∙ c.if-is_some.false)) in
    let e = c.feed_some.ensures ∙ ap (λ (f : Feeding). fed_bytes f (take c.min-fed.result portion)) is-open in
    e ∙
    by-test (eqb c.min-fed.result (length portion))
    (λ t. part-all a.standing a.taken a.place a.held_count a.held a.sound portion _ c.min-fed.ensures (eqb-true _ _ t))
    (λ t.
    let some : is_some c.feed_some.new.self.ground ≡ true = sym c.is_some-2.ensures ∙ (rw t at c.if-fed-portion.true) in
    part-refused a.standing a.taken a.place a.held_count a.held a.sound portion _ c.min-fed.ensures
    (λ z. some-refused c.feed_some.new.self.ground some (ap (λ (f : Feeding). f.number) e ∙ z))) ∙
    ap (λ (f : Feeding). fed_bytes f portion) (sym is-open)

pub returns : goal.returns
returns c =
    let a = c.args.self.now in
    let portion : List ℕ = c.args.portion.now in
    let is-open = known-open a (none-open a.ground (sym c.is_some.ensures ∙ c.if-is_some.false)) in
    let e = c.feed_some.ensures ∙ ap (λ (f : Feeding). fed_bytes f (take c.min-fed.result portion)) is-open in
    let less = neither (eqb c.min-fed.result (length portion)) _ c.if-fed-portion.false in
    let zero = none_zero c.feed_some.new.self.ground (sym c.is_some-2.ensures ∙ less.1) in
    c.remember.ensures ∙
    ap (remembering (answer 1 4096)) e ∙
    part-full a.standing a.taken a.place a.held_count a.held a.sound portion _ c.min-fed.ensures (ap (λ (f : Feeding). f.number) (sym e) ∙ zero)
    (eqb-false _ _ (rw less.0)) ∙
    ap (λ (f : Feeding). fed_bytes f portion) (sym is-open)
