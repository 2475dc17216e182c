use Rattle.std.proofs.Common.{eq-eqb, rules, tests, sym, ◌∙◌}
use Rattle.std.proofs.lemmas.Iterator.{YieldsList-from_slice, YieldsList-from_zip}
use Rattle.std.proofs.lemmas.Iterator.Search.{all_from_yields_List}
use Rattle.std.proofs.lemmas.List.{length-map}
use Rattle.rdp_encode.specs.Table.{line_of}
use Rattle.rdp_encode.proofs.PackLaws.{fits_pair, each-fits}
use Rattle.rdp_encode.proofs.packing.Layout.fits.Goals as goal

pub returns-then-numbers-self : goal.returns-then-numbers-self
returns-then-numbers-self c =
    let ls = c.args.self.lines.now in
    let ns = c.args.numbers.now in
    let long = c.if-numbers-self.true in
    rw (eq-eqb _ _ (long ∙ sym (length-map ls line_of)))
    (all_from_yields_List fits_pair c.all.new.self _ _ c.all.ensures.ran (YieldsList-from_zip {s = c.zip.result} (YieldsList-from_slice ls cc) (YieldsList-from_slice ns cc)) (λ x b q k. search (rules, tests)) ∙
    each-fits ls ns long)
