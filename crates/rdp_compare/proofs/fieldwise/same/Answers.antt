use Rattle.std.proofs.Common.{◌/◌, length, eqb, rules, tests, refl, arith, ◌∙◌}
use Rattle.std.proofs.lemmas.Iterator.{YieldsList-from_range}
use Rattle.std.proofs.lemmas.Iterator.Search.{all_from_yields_List}
use Rattle.rdp_words.specs.Words.{word_at}
use Rattle.rdp_compare.proofs.WordLaws.{all-same}
use Rattle.rdp_compare.proofs.fieldwise.same.Goals as goal

pub returns : goal.returns
returns c =
    let xs = c.args.first.now in
    let ys = c.args.second.now in
    all_from_yields_List (λ k. eqb (word_at xs k) (word_at ys k)) c.all.new.self _ _ c.all.ensures.ran (YieldsList-from_range 0 (length xs / 8) (length xs / 8) refl (omega arith)) (λ x b q k. search (rules, tests)) ∙
    all-same xs ys c.requires.0 (λ k. (c.type_inv.first k).fits) (λ k. (c.type_inv.second k).fits) c.requires.1 0 (length xs / 8) (omega arith)
