-- `rdp_stream::arrival::Arrival::read` meets its contract. Assumes nothing.
use Rattle.std.proofs.Common.{true, false, Result, Ok, Err, length, take, ◌≡◌, rules, refl, sym, ◌∙◌, true≢false}
use Rattle.std.specs.Result.{IsErr, IsErrAnd}
use Rattle.rdp_words.specs.declared.grounds.Ground.{Ground}
use Rattle.rdp_words.specs.declared.grounds.Ground.TheVariants.{Damaged}
use Rattle.rdp_stream.specs.declared.Stream.{Stream}
use Rattle.rdp_stream.specs.Records.{remembered, is_damaged, standing_in}
use Rattle.rdp_stream.specs.Steps.{unlike_any}
use Rattle.rdp_words.specs.Kinds.{among}
use Rattle.rdp_stream.specs.Arrivals.{IsRead}
use Rattle.rdp_stream.specs.declared.arrival.Arrival.{Arrival}
use Rattle.rdp_stream.proofs.HeldLaws.{damaged-by}
use Rattle.rdp_stream.proofs.RecordLaws.{is_open}
use Rattle.rdp_stream.proofs.arrival.Arrival.read.Goals as goal

pub returns-then-is_damaged : goal.returns-then-is_damaged
returns-then-is_damaged c =
    let r = c.args.stream.now in
    (refl, sym (damaged-by r.held r.held_count r.taken r.number r.waited) ∙ rw (sym c.is_damaged.ensures ∙ c.if-is_damaged.true))

refused : (r : Stream) (read : Result Arrival Ground) (g : Ground) → IsErr read × IsErrAnd read (λ e. e ≡ g) → g ≡ Damaged → is_damaged r ≡ true → IsRead r read
refused r (Ok a) g e d t = absurd (true≢false (sym e.0))
refused r (Err x) g e d t = (e.1 ∙ d, t)

pub returns-in_err-ground : goal.returns-in_err-ground
returns-in_err-ground c =
    let r = c.args.stream.now in
    let told = c.in_err-ground.ensures in
    refused r _ _ c.from_residual.ensures told.0
    (sym (damaged-by r.held r.held_count r.taken r.number r.waited) ∙ rw (sym c.is_damaged.ensures ∙ c.if-is_damaged.false, told.1))

-- a record that is not damaged
undamaged : (r : Stream) → unlike_any r.held r.held_count r.taken r.waited ≡ false → among r.number remembered ≡ true → is_damaged r ≡ false
undamaged r e k = sym (damaged-by r.held r.held_count r.taken r.number r.waited) ∙ rw (e, k)

pub invariant_of-result : goal.invariant_of-result
invariant_of-result c =
    let r = c.args.stream.now in
    let long : length r.held ≡ 176 = search rules in
    record { sound = is_open r (undamaged r (sym c.is_damaged.ensures ∙ c.if-is_damaged.false) c.in_ok-ground.ensures.1) long }

pub returns : goal.returns
returns c =
    let r = c.args.stream.now in
    let told = c.in_ok-ground.ensures in (
      λ i. record { standing = standing_in r; held = take r.held_count r.held; taken = r.taken; number = told.0 i; place = r.place },
      undamaged r (sym c.is_damaged.ensures ∙ c.if-is_damaged.false) told.1,
    )
