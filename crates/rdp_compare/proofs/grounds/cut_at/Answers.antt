use Rattle.std.proofs.Common.{◌≡◌, ℕ, ◌*◌, ◌^◌, length, rules, tests, arith, refl, ◌∙◌}
use Rattle.std.proofs.lemmas.Iterator.{YieldsList-from_map}
use Rattle.std.proofs.lemmas.Iterator.Consumers.{sum_by_from_yields_List, fits_by_from_yields_list, YieldsList-at, YieldsList-from_first}
use Rattle.rdp_check.specs.Commands.{commands_of, words_in}
use Rattle.rdp_check.specs.declared.commands.Commands.{Commands}
use Rattle.rdp_check.proofs.JoinLaws.{parsed, words_inside}
use Rattle.rdp_compare.proofs.GroundLaws.{summed, cut, no_cut}
use Rattle.rdp_compare.proofs.grounds.cut_at.Goals.{After-sum-end}
use Rattle.rdp_compare.proofs.grounds.cut_at.Goals as goal

pub sum-end-requires-clause-fits : goal.sum-end-requires-clause-fits
sum-end-requires-clause-fits c =
    let list = c.args.list.now in
    fits_by_from_yields_list (length {A = ℕ}) (commands_of list) c.map.result (2 ^ 64)
    (YieldsList-from_map _ (length {A = ℕ})
    (YieldsList-at c.map.ensures.source (YieldsList-from_first (λ x. x.now) (λ (s : Commands). commands_of s.0.now) (commands_of list) refl)) c.map.ensures.closure (λ x r q k. search (rules, tests)))
    (rw (summed (commands_of list) (parsed list).alone) (omega (arith, words_inside list, c.requires)))

end : (c : After-sum-end) → c.sum-end.result ≡ 8 * words_in (commands_of c.args.list.now)
end c =
    let list = c.args.list.now in
    sum_by_from_yields_List (length {A = ℕ}) (commands_of list) c.map.result _ c.sum-end.ensures.ran
    (YieldsList-from_map _ (length {A = ℕ})
    (YieldsList-at c.map.ensures.source (YieldsList-from_first (λ x. x.now) (λ (s : Commands). commands_of s.0.now) (commands_of list) refl)) c.map.ensures.closure (λ x r q k. search (rules, tests))) ∙
    summed (commands_of list) (parsed list).alone

pub returns-then-end-list : goal.returns-then-end-list
returns-then-end-list c = cut c.args.list.now c.args.words (end (goal.at.returns-then-end-list c).After-sum-end) c.if-end-list.true

pub returns : goal.returns
returns c = no_cut c.args.list.now c.args.words (end (goal.at.returns c).After-sum-end) c.if-end-list.false
