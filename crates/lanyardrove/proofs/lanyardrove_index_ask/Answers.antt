-- `lanyardrove::lanyardrove_index_ask` meets its contract: the answer of a question fits its bits. Assumes nothing.
use Rattle.std.proofs.Common.{ap, arith}
use Rattle.rdp_index.specs.Index.{Asked}
use Rattle.lanyardrove.specs.Replies.{of_ask}
use Rattle.lanyardrove.proofs.BoundLaws.{small}
use Rattle.lanyardrove.proofs.lanyardrove_index_ask.Goals.{In-Ok}
use Rattle.lanyardrove.proofs.lanyardrove_index_ask.Goals as goal

pub overflow_mul-third : goal.overflow_mul-third
overflow_mul-third c =
    let b = small (of_ask c.args.list.now c.args.entries.now c.args.place c.ranges.place.fits) in
    let read = ap (λ (a : Asked). a.read) c.in-Ok.ensures in
    search (arith, b.third, read)

pub overflow_add-third : goal.overflow_add-third
overflow_add-third c =
    let b = small (of_ask c.args.list.now c.args.entries.now c.args.place c.ranges.place.fits) in
    let read = ap (λ (a : Asked). a.read) c.in-Ok.ensures in
    let hazards = ap (λ (a : Asked). a.hazards) c.in-Ok.ensures in
    search (arith, b.third, read, hazards)

pub pack-requires : goal.pack-requires
pack-requires c =
    let b = small (of_ask c.args.list.now c.args.entries.now c.args.place c.ranges.place.fits) in
    let read = ap (λ (a : Asked). a.read) c.in-Ok.ensures in
    let hazards = ap (λ (a : Asked). a.hazards) c.in-Ok.ensures in
    (omega arith, omega (arith, b.third, read, hazards))
