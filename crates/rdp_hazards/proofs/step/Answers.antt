-- `rdp_hazards::step` meets its contract: the parts of the table's entry are those of the rule. Assumes nothing.
use Rattle.std.proofs.Common.{◌≡◌, ◌∙◌, ◌<◌, ◌%◌, arith}
use Rattle.std.specs.Prelude.{not, eqb}
use Rattle.rdp_hazards.specs.Hazards.{code_in, required_of}
use Rattle.rdp_hazards.proofs.HazardLaws.{entry-any, entry-parts, required-most}
use Rattle.rdp_hazards.proofs.step.Goals as goal

pub returns : goal.returns
returns c =
    let a = c.args in
    let small : a.number % 64 < 64 = omega arith in
    let p = entry-parts a.hazards (a.number % 64) _ small (c.entry-e.ensures ∙ entry-any _ c.step_table-table.result.agrees a.hazards a.number) in
    let most = required-most a.hazards (a.number % 64) small in
    let code : code_in c.sync_of.result ≡ required_of a.hazards (a.number % 64) = c.sync_of.ensures (rw p.required (omega (arith, most))) ∙ p.required in
    λ i. record { next = p.next i; missing = not (eqb (code i) 0); required = code i }
