use Rattle.std.proofs.Common.{sym, ◌∙◌}
use Rattle.rdp_check.specs.Commands.{commands_of}
use Rattle.rdp_compare.proofs.PairLaws.{some-left, none-left, first-more, second-more, none-more}
use Rattle.rdp_compare.proofs.entries.rest_after.Goals as goal

pub returns-then-is_some : goal.returns-then-is_some
returns-then-is_some c =
    let p = c.args.pairs in
    let more = some-left p.first c.next.new.self c.next.result c.next.ensures.steps (sym c.is_some.ensures ∙ c.if-is_some.true) in
    first-more c.args.end p.a p.b (commands_of p.first.0.now) (commands_of p.second.0.now) c.requires more.0 more.1 more.2

pub returns-then-is_some-2 : goal.returns-then-is_some-2
returns-then-is_some-2 c =
    let p = c.args.pairs in
    let none = none-left p.first c.next.new.self c.next.result c.next.ensures.steps (sym c.is_some.ensures ∙ c.if-is_some.false) in
    let more = some-left p.second c.next-2.new.self c.next-2.result c.next-2.ensures.steps (sym c.is_some-2.ensures ∙ c.if-is_some-2.true) in
    second-more c.args.end p.a p.b (commands_of p.first.0.now) (commands_of p.second.0.now) none more.0 more.1 more.2

pub returns : goal.returns
returns c =
    let p = c.args.pairs in
    let none = none-left p.first c.next.new.self c.next.result c.next.ensures.steps (sym c.is_some.ensures ∙ c.if-is_some.false) in
    let none-2 = none-left p.second c.next-2.new.self c.next-2.result c.next-2.ensures.steps (sym c.is_some-2.ensures ∙ c.if-is_some-2.false) in
    none-more c.args.end p.a p.b (commands_of p.first.0.now) (commands_of p.second.0.now) none none-2
