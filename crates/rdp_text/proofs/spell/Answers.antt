-- When the loop ends all characters are written. Assumes nothing.
use Rattle.std.proofs.Common.{length, arith}
use Rattle.std.proofs.lemmas.List.FromFn.{fill_by_all}
use Rattle.rdp_text.specs.Text.{character_of}
use Rattle.rdp_text.proofs.spell.Goals as goal

pub returns : goal.returns
returns c =
    fill_by_all (character_of c.args.row c.args.bytes.now) c.loop-k.text (length c.args.text.now) 0 c.loop-k.auto.text
    (λ j h. c.loop-k.invariant j (omega arith))
