use Rattle.std.proofs.Common.{ℕ, ◌+◌, ◌≤◌, ◌≡◌, ap, sym, add-zero, arith, eq-eqb, ne_eqb}
use Rattle.rdp_compare.specs.Differing.{line_index}
use Rattle.rdp_compare.proofs.DifferingLaws.{bit-most}
use Rattle.rdp_compare.proofs.fieldwise.bit_of.Goals as goal

pub returns-then-number-eq47 : goal.returns-then-number-eq47
returns-then-number-eq47 c =
    let a = c.args in
    let most : a.k + c.unnamed_before.result ≤ 40 = omega (arith, c.unnamed_before.ensures.1, c.requires) in
    let e : line_index a.number a.k ≡ a.k + c.unnamed_before.result = rw (eq-eqb _ _ c.if-number-eq47.true)
    (ap (λ (x : ℕ). a.k + x) (sym c.unnamed_before.ensures.0)) in
    bit-most e most

pub returns : goal.returns
returns c =
    let a = c.args in
    let e : line_index a.number a.k ≡ a.k = rw (ne_eqb _ _ c.if-number-eq47.false) (add-zero a.k) in
    bit-most e (omega (arith, c.requires))
