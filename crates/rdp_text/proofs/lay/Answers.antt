-- When the loop ends all bytes are written. Assumes nothing.
use Rattle.std.proofs.Common.{length, arith}
use Rattle.std.proofs.lemmas.List.FromFn.{fill_by_all}
use Rattle.rdp_text.specs.Text.{byte_in}
use Rattle.rdp_text.proofs.lay.Goals as goal

pub returns : goal.returns
returns c =
    fill_by_all (byte_in c.args.words.now) c.loop-i.out (length c.args.out.now) 0 c.loop-i.auto.out
    (λ k h. c.loop-i.invariant k (omega arith))
