use Rattle.std.proofs.Common.{◌<◌, length, ap, ◌∙◌, arith}
use Rattle.rdp_command.proofs.Triangles.{layout-at}
use Rattle.rdp_encode.proofs.AnswerLaws.{fit_parts}
use Rattle.rdp_encode.proofs.encoding.Packable.flags_agree.Goals.{Then-self-eq1}
use Rattle.rdp_encode.proofs.encoding.Packable.flags_agree.Goals as goal

long : (c : Then-self-eq1) → 2 < length c.args.self.numbers.now
long c =
    let self = c.args.self in
    let e = (fit_parts self.number self.numbers.now self.fit).0 ∙ ap length (layout-at self.number c.if-self-eq1.true) in
    omega arith

pub bounds-numbers-0 : goal.bounds-numbers-0
bounds-numbers-0 c = omega (arith, long (goal.at.bounds-numbers-0 c).Then-self-eq1)

pub bounds-numbers-1 : goal.bounds-numbers-1
bounds-numbers-1 c = omega (arith, long (goal.at.bounds-numbers-1 c).Then-self-eq1)

pub bounds-numbers-2 : goal.bounds-numbers-2
bounds-numbers-2 c = omega (arith, long (goal.at.bounds-numbers-2 c).Then-self-eq1)
