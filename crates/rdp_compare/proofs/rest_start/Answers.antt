use Rattle.std.proofs.Common.{sym, ◌∙◌}
use Rattle.rdp_words.proofs.GroundLaws.{refused-number}
use Rattle.rdp_compare.proofs.GroundLaws.{refused_end, handed}
use Rattle.rdp_compare.proofs.rest_start.Goals as goal

pub returns-in-Ok-clause-start : goal.returns-in-Ok-clause-start
returns-in-Ok-clause-start c =
    let all = c.in-Ok.ensures in
    handed c.args.first.now c.args.second.now c.args.room (sym all.answers) (c.rest_after.ensures ∙ all.rest)

pub returns-in-Err-clause-start : goal.returns-in-Err-clause-start
returns-in-Err-clause-start c =
    refused_end c.args.first.now c.args.second.now c.args.room (sym c.in-Err.ensures) (refused-number c.in-Err.refusal.ground)
