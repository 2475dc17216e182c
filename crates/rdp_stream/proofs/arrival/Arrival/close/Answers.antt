-- `rdp_stream::arrival::Arrival::close` meets its contract, by its tests. Assumes nothing.
use Rattle.std.proofs.Common.{ℕ, sym, ◌∙◌, ap}
use Rattle.rdp_command.specs.Decode.{answer}
use Rattle.rdp_stream.specs.Portions.{remembering}
use Rattle.rdp_stream.specs.Arrivals.{known}
use Rattle.rdp_stream.proofs.RecordLaws.{closed-refused, closed-odd, closed-cut, closed-whole, count-held}
use Rattle.rdp_stream.proofs.KnownLaws.{none_zero, some-refused}
use Rattle.rdp_stream.proofs.arrival.Arrival.close.Goals as goal

pub returns-then-is_some : goal.returns-then-is_some
returns-then-is_some c =
    let a = c.args.self.now in
    closed-refused (known a) (some-refused a.ground (sym c.is_some.ensures ∙ c.if-is_some.true))

pub returns-then-self-ne0 : goal.returns-then-self-ne0
returns-then-self-ne0 c =
    let a = c.args.self.now in
    c.remember.ensures ∙ closed-odd (known a) (none_zero a.ground (sym c.is_some.ensures ∙ c.if-is_some.false)) c.if-self-ne0.true

pub returns-then-self-ne0-2 : goal.returns-then-self-ne0-2
returns-then-self-ne0-2 c =
    let a = c.args.self.now in
    let long = count-held a.held a.held_count a.taken a.sound in
    c.remember-then-self-ne0-2.ensures ∙
    ap (λ (words : ℕ). remembering (answer 3 words) (known a)) c.accepted-place.ensures ∙
    closed-cut (known a) (none_zero a.ground (sym c.is_some.ensures ∙ c.if-is_some.false)) c.if-self-ne0.false (λ z. c.if-self-ne0-2.true (sym long ∙ z))

pub returns-else-self-ne0-2 : goal.returns-else-self-ne0-2
returns-else-self-ne0-2 c =
    let a = c.args.self.now in
    let long = count-held a.held a.held_count a.taken a.sound in
    closed-whole (known a) (none_zero a.ground (sym c.is_some.ensures ∙ c.if-is_some.false)) c.if-self-ne0.false (long ∙ c.if-self-ne0-2.false)
