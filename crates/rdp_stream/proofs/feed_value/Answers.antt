-- `rdp_stream::feed_value` meets its contract, by those of what it calls. Assumes nothing.
use Rattle.std.proofs.Common.{sym, ◌∙◌, ap}
use Rattle.rdp_words.specs.Grounds.{number_of}
use Rattle.rdp_stream.specs.Portions.{Feeding, fed_bytes}
use Rattle.rdp_stream.specs.Records.{feeding_of}
use Rattle.rdp_stream.proofs.RecordLaws.{answered-with, answered-damaged}
use Rattle.rdp_stream.proofs.feed_value.Goals as goal

pub returns-in-Ok : goal.returns-in-Ok
returns-in-Ok c =
    let r = c.args.before in
    let told = c.in-Ok.ensures in
    answered-with r told.1 _ _ (c.feed.ensures ∙ ap (λ (f : Feeding). fed_bytes f c.args.portion.now) told.0) _ c.recorded.ensures _ c.answer.ensures

pub returns-in-Err : goal.returns-in-Err
returns-in-Err c =
    let r = c.args.before in
    let told = c.in-Err.ensures in
    (λ i. record { after = r; answer = record { number = number_of (told.0 i); place = 0 } }) ∙ sym (answered-damaged r (fed_bytes (feeding_of r) c.args.portion.now) told.1)
