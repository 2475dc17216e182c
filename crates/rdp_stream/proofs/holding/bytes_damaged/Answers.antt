-- `rdp_stream::holding::bytes_damaged` meets its contract, by those of what it calls. Assumes nothing.
use Rattle.std.proofs.Common.{ℕ, not, List, drop, length, ◌≡◌, rules, sym, ◌∙◌, ap}
use Rattle.rdp_stream.specs.Records.{all_zero}
use Rattle.rdp_stream.proofs.HeldLaws.{zero-past}
use Rattle.rdp_stream.proofs.holding.bytes_damaged.Goals.{After-ne}
use Rattle.rdp_stream.proofs.holding.bytes_damaged.Goals as goal

unlike : (c : After-ne) → c.ne.result ≡ not (all_zero (drop c.args.count c.args.held.now))
unlike c =
    let held : List ℕ = c.args.held.now in
    let long : length held ≡ 176 = search rules in
    c.ne.ensures ∙ ap not (zero-past held c.args.count long)

pub returns-then-ne : goal.returns-then-ne
returns-then-ne c = rw (sym (unlike (goal.at.returns-then-ne c).After-ne) ∙ c.if-ne.true)

pub returns : goal.returns
returns c = rw (sym (unlike (goal.at.returns c).After-ne) ∙ c.if-ne.false, c.whole_words.ensures.0)
