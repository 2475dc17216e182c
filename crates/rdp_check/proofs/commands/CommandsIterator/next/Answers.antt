-- `rdp_check::commands::Commands::next` meets its contract: the first command, and those after it. Assumes nothing.
use Rattle.std.proofs.Common.{◌≡◌, ℕ, List, ◌*◌, ◌∷◌, length, take, drop, sym, ap, ◌∙◌, arith}
use Rattle.rdp_check.specs.Commands.{commands_of}
use Rattle.rdp_check.proofs.ListLaws.{commands-head, commands-cut}
use Rattle.rdp_check.proofs.commands.CommandsIterator.next.Goals.{After-split_at}
use Rattle.rdp_check.proofs.commands.CommandsIterator.next.Goals as goal

pub returns-then-n-eq0-clause-steps : goal.returns-then-n-eq0-clause-steps
returns-then-n-eq0-clause-steps c =
    let e = commands-cut c.args.self.now.0.now (omega (arith, c.whole_words-n.ensures.0)) in
    (e, e)

steps : (c : After-split_at) → commands_of c.args.self.now.0.now ≡ c.split_at.result.0.now ∷ commands_of c.split_at.result.1.now
steps c =
    let list : List ℕ = c.args.self.now.0.now in
    let n = ap (λ (k : ℕ). 8 * k) c.whole_words-n.ensures.0 in
    let first = c.split_at.ensures.front ∙ ap (λ (k : ℕ). take k list) n in
    let rest = c.split_at.ensures.back ∙ ap (λ (k : ℕ). drop k list) n in
    commands-head list (λ z. c.if-n-eq0.false (omega (arith, c.whole_words-n.ensures.0, z))) ∙ (λ i. sym first i ∷ commands_of (sym rest i))

pub returns-clause-steps : goal.returns-clause-steps
returns-clause-steps c = steps (goal.at.returns-clause-steps c).After-split_at

pub returns-clause-goes : goal.returns-clause-goes
returns-clause-goes c =
    let e = ap length (steps (goal.at.returns-clause-goes c).After-split_at) in
    record { on = λ _. (tt, tt, omega (arith, e)); keeps = tt; rests = λ _. tt }
