use Rattle.std.proofs.Common.{◌≡◌, length, take, sym, ap, ◌∙◌}
use Rattle.rdp_compare.specs.Differing.{field_numbers}
use Rattle.rdp_compare.proofs.DifferingLaws.{written-count, few-fields, written-front}
use Rattle.rdp_compare.proofs.fieldwise.numbers_of.Goals.{After-unwrap_or-count}
use Rattle.rdp_compare.proofs.fieldwise.numbers_of.Goals as goal

-- the part that is handed back
front : (c : After-unwrap_or-count) → take c.unwrap_or-count.result c.fields.new.out ≡ field_numbers c.args.command.now
front c =
    rw c.unwrap_or-count.ensures
    (written-front c.args.command.now c.args.numbers.now c.requires.1 c.in-Ok.ensures c.fields.result c.fields.ensures.answer c.fields.ensures.output)

pub slice_bounds-result-end-2 : goal.slice_bounds-result-end-2
slice_bounds-result-end-2 c =
    c.unwrap_or-count.ensures ∙
    written-count c.args.command.now c.args.numbers.now c.requires.1 c.in-Ok.ensures c.fields.result c.fields.ensures.answer ∙
    sym (ap length (front c))

pub returns : goal.returns
returns c = (front c, rw (front c) (few-fields c.args.command.now c.args.numbers.now c.requires.1 c.in-Ok.ensures))
