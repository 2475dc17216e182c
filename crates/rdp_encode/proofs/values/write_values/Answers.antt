use Rattle.std.proofs.Common.{le-ltb}
use Rattle.rdp_words.specs.Words.{overwrite}
use Rattle.rdp_encode.proofs.values.write_values.Goals as goal

pub returns-clause-output : goal.returns-clause-output
unfolding overwrite
returns-clause-output c = rw (le-ltb _ _ c.if-out-count.false, c.copy_from_slice.ensures.after)
