use Rattle.std.proofs.Common.{◌^◌, rules, tests, ◌∙◌, arith}
use Rattle.std.specs.List.{zip, enumerate_from}
use Rattle.std.proofs.lemmas.Iterator.{YieldsList-from_slice, YieldsList-from_zip, YieldsList-from_map}
use Rattle.std.proofs.lemmas.Iterator.Consumers.{sum_by_from_yields_List, fits_by_from_yields_list, YieldsList-at, YieldsList-from_enumerate}
use Rattle.rdp_compare.proofs.DifferingLaws.{field_bit, bits-summed, bits-small}
use Rattle.rdp_compare.proofs.fieldwise.field_bits.Goals as goal

pub sum-requires-clause-fits : goal.sum-requires-clause-fits
sum-requires-clause-fits c =
    let n = c.args.number in
    let xs = c.args.first.now in
    let ys = c.args.second.now in
    fits_by_from_yields_list (field_bit n) (enumerate_from 0 (zip xs ys)) c.map.result (2 ^ 64)
    (YieldsList-from_map _ (field_bit n)
    (YieldsList-at c.map.ensures.source (YieldsList-from_enumerate (YieldsList-at (cc) (YieldsList-from_zip {s = c.zip.result} (YieldsList-from_slice xs cc) (YieldsList-from_slice ys cc))) (cc))) c.map.ensures.closure (λ x r q k. search (rules, tests)))
    (rw (bits-summed n 0 xs ys) (omega (arith, bits-small n xs ys c.requires)))

pub returns : goal.returns
returns c =
    let n = c.args.number in
    let xs = c.args.first.now in
    let ys = c.args.second.now in
    let is =
    sum_by_from_yields_List (field_bit n) (enumerate_from 0 (zip xs ys)) c.map.result _ c.sum.ensures.ran
    (YieldsList-from_map _ (field_bit n)
    (YieldsList-at c.map.ensures.source (YieldsList-from_enumerate (YieldsList-at (cc) (YieldsList-from_zip {s = c.zip.result} (YieldsList-from_slice xs cc) (YieldsList-from_slice ys cc))) (cc))) c.map.ensures.closure (λ x r q k. search (rules, tests))) ∙
    bits-summed n 0 xs ys in
    (is, rw is (bits-small n xs ys c.requires))
