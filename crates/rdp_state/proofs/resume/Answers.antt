-- `rdp_state::resume` meets its contract: the check from where the list stands, and the words of the commands before its place. Assumes nothing.
use Rattle.std.proofs.Common.{◌≡◌, length, rules}
use Rattle.rdp_state.proofs.ResumeLaws.{resumed-is}
use Rattle.rdp_state.proofs.resume.Goals as goal

pub returns : goal.returns
returns c =
    let b = c.args.before in
    let long : length b.words ≡ 32 = search (rules, c.well_formed.0.1.1.0) in
    resumed-is b long c.args.bytes.now _ c.check_from-judged.ensures _ c.end_of.ensures _ c.replay_from-replay.ensures
