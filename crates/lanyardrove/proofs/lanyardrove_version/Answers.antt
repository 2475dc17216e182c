-- `lanyardrove::lanyardrove_version` meets its contract. Assumes nothing.
use mathlib.Core.Path.{refl}
use Rattle.lanyardrove.proofs.lanyardrove_version.Goals as goal

pub returns : goal.returns
returns c = refl
