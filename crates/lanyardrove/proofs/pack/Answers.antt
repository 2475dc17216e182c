-- `lanyardrove::pack` meets its contract. Assumes nothing.
use mathlib.Core.Path.{refl}
use Rattle.lanyardrove.specs.Replies.{packed}
use Rattle.lanyardrove.proofs.pack.Goals as goal

pub returns : goal.returns
unfolding packed
returns c = refl
