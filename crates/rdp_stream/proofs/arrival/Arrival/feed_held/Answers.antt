-- `rdp_stream::arrival::Arrival::feed_held` meets its contract: the held bytes with those of the part are a command, or not yet. Assumes nothing.
use Rattle.std.proofs.Common.{ℕ, ◌+◌, List, length, sym, ◌∙◌, ap}
use Rattle.rdp_stream.specs.Portions.{Feeding, fed_bytes}
use Rattle.rdp_words.specs.Grounds.{number_if}
use Rattle.rdp_stream.proofs.FeedLaws.{open-held, all-held, held-after, completes}
use Rattle.rdp_stream.proofs.KnownLaws.{known-open}
use Rattle.rdp_stream.proofs.arrival.Arrival.feed_held.Goals as goal

pub invariant_of-self : goal.invariant_of-self
invariant_of-self c =
    let a = c.args.self.now in
    record {
      sound =
          open-held a.standing a.taken a.place a.held_count a.held c.args.part.now a.sound c.requires.1 _ c.min-copied.ensures _ c.fill-filled.ensures _
          c.whole_words-words.ensures.0 c.if-words-eq0.true;
    }

pub returns-then-words-eq0 : goal.returns-then-words-eq0
returns-then-words-eq0 c =
    let a = c.args.self.now in
    let part : List ℕ = c.args.part.now in
    let all =
    all-held a.standing a.taken a.place a.held_count a.held part a.sound c.requires.1 _ c.min-copied.ensures _ c.fill-filled.ensures _ c.whole_words-words.ensures.0
    c.if-words-eq0.true in
    (λ i. record { standing = a.standing; held = all i; taken = a.taken + length part; number = number_if (c.requires.0 i); place = a.place }) ∙
    held-after a.standing a.taken a.place a.held_count a.held part a.sound c.requires.1 _ c.min-copied.ensures _ c.fill-filled.ensures _
    c.whole_words-words.ensures.0 c.if-words-eq0.true ∙
    ap (λ (f : Feeding). fed_bytes f part) (sym (known-open a c.requires.0))

pub finish-requires : goal.finish-requires
finish-requires c =
    let a = c.args.self.now in (
      c.requires.0,
      completes a.standing a.taken a.place a.held_count a.held c.args.part.now a.sound c.requires.1 _ c.min-copied.ensures _ c.fill-filled.ensures _
          c.whole_words-words.ensures.0 c.if-words-eq0.false,
    )
