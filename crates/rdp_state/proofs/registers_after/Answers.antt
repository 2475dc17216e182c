-- `rdp_state::registers_after` meets its contract: the commands before the check's place leave the registers of its outcome. Assumes nothing.
use Rattle.std.proofs.Common.{ap, ◌∙◌}
use Rattle.rdp_state.specs.Replay.{end_of}
use Rattle.rdp_state.proofs.ReplayLaws.{final, registers-final, outcome-registers, told-is}
use Rattle.rdp_state.proofs.registers_after.Goals as goal

pub returns : goal.returns
returns c =
    let list = c.args.list.now in
    let e = told-is list _ _ c.told_of-outcome.ensures c.check.ensures in
    let registers =
    c.registers_of-registers.ensures ∙
    registers-final list c.end_of-end.result c.replay_from-replay.result.words c.replay_from-replay.ensures.0 ∙
    ap (final list) (c.end_of-end.ensures ∙ (λ i. end_of (e i).0.number (e i).0.place)) ∙
    outcome-registers 4096 list in
    λ i. record { number = (e i).0.number; place = (e i).0.place; hazards = (e i).1; registers = registers i }
