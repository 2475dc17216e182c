-- Blocks of the colour's four bytes fill the pattern. Assumes nothing.
use Rattle.std.proofs.Common.{arith, length, ap, ◌≡◌, ◌≤◌}
use Rattle.rdp_fill.proofs.PatternLaws.{four-hold, holds-less}
use Rattle.rdp_fill.proofs.run.lay_pattern.Goals as goal

pub returns : goal.returns
returns c =
    let four = four-hold c.args.color c.to_be_bytes.ensures in
    let long : length c.to_be_bytes.result ≡ 4 = ap length c.to_be_bytes.ensures in
    let all : length c.args.pattern.now ≤ c.blocks-2.result = omega (arith, c.blocks-2.ensures.reached, c.requires) in
    holds-less _ (c.blocks-2.ensures.bytes.holds c.args.color 0 (rw long four)) all
