use Rattle.std.proofs.Common.{◌^◌, rules, tests, ◌∙◌}
use Rattle.std.specs.List.{zip}
use Rattle.std.proofs.lemmas.Iterator.{YieldsList-from_slice, YieldsList-from_zip, YieldsList-from_map}
use Rattle.std.proofs.lemmas.Iterator.Consumers.{sum_by_from_yields_List, fits_by_from_yields_list, YieldsList-at}
use Rattle.rdp_encode.proofs.PackLaws.{placed_pair, all-placed}
use Rattle.rdp_encode.proofs.packing.Layout.packed.Goals as goal

pub sum-requires-clause-fits : goal.sum-requires-clause-fits
sum-requires-clause-fits c =
    let ls = c.args.self.lines.now in
    let ns = c.args.numbers.now in
    let word = c.args.word in
    fits_by_from_yields_list (placed_pair word) (zip ls ns) c.map.result (2 ^ 64)
    (YieldsList-from_map _ (placed_pair word)
    (YieldsList-at c.map.ensures.source (YieldsList-from_zip {s = c.zip.result} (YieldsList-from_slice ls cc) (YieldsList-from_slice ns cc))) c.map.ensures.closure (λ x r q k. search (rules, tests)))
    (rw (all-placed word ls ns) c.requires)

pub returns : goal.returns
returns c =
    let ls = c.args.self.lines.now in
    let ns = c.args.numbers.now in
    let word = c.args.word in
    sum_by_from_yields_List (placed_pair word) (zip ls ns) c.map.result _ c.sum.ensures.ran
    (YieldsList-from_map _ (placed_pair word)
    (YieldsList-at c.map.ensures.source (YieldsList-from_zip {s = c.zip.result} (YieldsList-from_slice ls cc) (YieldsList-from_slice ns cc))) c.map.ensures.closure (λ x r q k. search (rules, tests))) ∙
    all-placed word ls ns
