-- `rdp_words::command_words` meets its contract: the words of its number are those of its bits. Assumes nothing.
use mathlib.Core.Path.{ap, ◌∙◌}
use Rattle.rdp_words.specs.Kinds.{words_of}
use Rattle.rdp_words.proofs.PlaceLaws.{command-words}
use Rattle.rdp_words.proofs.command_words.Goals as goal

pub returns : goal.returns
returns c = c.words_of.ensures ∙ ap words_of c.number_in.ensures ∙ command-words _
