use Rattle.std.proofs.Common.{sym}
use Rattle.rdp_words.proofs.GroundLaws.{refused-number}
use Rattle.rdp_compare.proofs.GroundLaws.{untouched, written}
use Rattle.rdp_compare.proofs.differences.Goals as goal

pub returns-in_err-needed-clause-entries : goal.returns-in_err-needed-clause-entries
returns-in_err-needed-clause-entries c =
    let e = c.in_err-needed.field-0.0 in
    (untouched c.args.first.now c.args.second.now c.args.entries.now (sym c.in_err-needed.ensures) (refused-number e.ground)).1

pub returns-clause-entries : goal.returns-clause-entries
returns-clause-entries c =
    (written c.args.first.now c.args.second.now c.args.entries.now (sym c.in_ok-needed.ensures.answers) c.write_entries.ensures).1
