-- `rdp_stream::arrival::Arrival::recorded` meets its contract: past the held bytes are zeros. Assumes nothing.
use Rattle.std.proofs.Common.{◌≡◌, sym, ℕ, Option, None, Some, MatchOption}
use Rattle.rdp_words.specs.Grounds.{number_of, number_if}
use Rattle.rdp_words.specs.declared.grounds.Ground.{Ground}
use Rattle.rdp_stream.specs.Records.{stream_of}
use Rattle.rdp_stream.proofs.RecordLaws.{count-held, held-back}
use Rattle.rdp_stream.proofs.arrival.Arrival.recorded.Goals as goal

number-told : (o : Option Ground) (n : ℕ) → MatchOption o (n ≡ 0) (λ g. n ≡ number_of g) → n ≡ number_if o
number-told None n e = e
number-told (Some g) n e = e

pub returns : goal.returns
unfolding stream_of
returns c =
    let a = c.args.self.now in
    let told = number-told a.ground c.map_or.result c.map_or.ensures in
    λ i.
    record {
      words = a.standing.words;
      held = held-back a.held a.held_count a.taken a.sound i;
      held_count = sym (count-held a.held a.held_count a.taken a.sound) i;
      taken = a.taken;
      number = told i;
      place = a.place;
      hazards = a.standing.hazards;
      ended = c.ended_as.ensures i;
      spare = c.args.before.now.spare;
      waited = a.standing.waited;
    }
