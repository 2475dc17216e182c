-- Runs of which each begins where the one before ends are one run. Assumes nothing.
use Rattle.rdp_fill.proofs.RunLaws.{is-joined}
use Rattle.rdp_fill.proofs.run.Runs.joined.Goals as goal

pub returns : goal.returns
returns c = is-joined c.args.self c.if-self.false
