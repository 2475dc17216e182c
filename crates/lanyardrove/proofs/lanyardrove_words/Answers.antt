-- `lanyardrove::lanyardrove_words` meets its contract, by that of `command_words`. Assumes nothing.
use Rattle.lanyardrove.proofs.lanyardrove_words.Goals as goal

pub returns : goal.returns
returns c = c.command_words.ensures
