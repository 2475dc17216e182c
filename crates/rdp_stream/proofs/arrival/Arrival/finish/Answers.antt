-- `rdp_stream::arrival::Arrival::finish` meets its contract: the command, and then what follows it. Assumes nothing.
use Rattle.std.proofs.Common.{ℕ, ◌+◌, ◌-◌, ◌*◌, List, refl, sym, ◌∙◌, ap}
use Rattle.std.proofs.lemmas.List.{take_rest}
use Rattle.rdp_words.proofs.GroundLaws.{refused-number}
use Rattle.rdp_stream.specs.Portions.{Feeding, fed_bytes}
use Rattle.rdp_words.specs.Grounds.{number_if}
use Rattle.rdp_stream.specs.Steps.{nothing_held}
use Rattle.rdp_stream.proofs.FeedLaws.{judged-room, judged-refused, judged-accepted}
use Rattle.rdp_stream.proofs.KnownLaws.{known-open, told-ok, told-err}
use Rattle.rdp_stream.proofs.arrival.Arrival.finish.Goals as goal

pub refuse-requires : goal.refuse-requires
refuse-requires c =
    let a = c.args.self.now in
    judged-room a.standing a.taken a.place a.held_count c.args.words a.held c.args.filled.now c.args.part.now c.requires.1 _
    (told-err c.resume-resumed.result _ c.resume-resumed.ensures c.in-Err.refusal c.in-Err.is)

pub returns-in-Ok : goal.returns-in-Ok
returns-in-Ok c =
    let a = c.args.self.now in
    let part : List ℕ = c.args.part.now in
    let used : ℕ = 8 * c.args.words - a.held_count in
    let after = c.resume-resumed.result.standing in
    let released = ap (λ (n : ℕ). nothing_held after (a.taken - a.held_count + 8 * c.args.words) n a.place) (ap number_if c.requires.0) in
    c.feed_whole.ensures ∙
    (λ i. fed_bytes ((c.release.ensures.known ∙ released) i) (take_rest part used i)) ∙
    judged-accepted a.standing a.taken a.place a.held_count c.args.words a.held c.args.filled.now part c.requires.1 _
    (told-ok c.resume-resumed.result _ c.resume-resumed.ensures c.in-Ok.field-0 c.in-Ok.is) refl ∙
    ap (λ (f : Feeding). fed_bytes f part) (sym (known-open a c.requires.0))

pub returns-in-Err : goal.returns-in-Err
returns-in-Err c =
    let a = c.args.self.now in
    let part : List ℕ = c.args.part.now in
    c.refuse.ensures ∙
    judged-refused a.standing a.taken a.place a.held_count c.args.words a.held c.args.filled.now part c.requires.1 _
    (told-err c.resume-resumed.result _ c.resume-resumed.ensures c.in-Err.refusal c.in-Err.is) (refused-number c.in-Err.refusal.ground) ∙
    ap (λ (f : Feeding). fed_bytes f part) (sym (known-open a c.requires.0))
