-- `rdp_block::loading::load_words` meets its contract. The loop's invariant: what is still to come of the whole words gives what was promised. Assumes nothing.
use Rattle.std.proofs.Common.{◌*◌}
use Rattle.rdp_block.specs.Views.{stripped}
use Rattle.rdp_block.proofs.StripLaws.{Due}
use Rattle.rdp_block.proofs.loading.load_words.Given as goal

abbrev pub invariant-loop-j : goal.invariant-loop-j
invariant-loop-j l = Due (stripped l.block) l.block.start 0 (4 * l.words) l.memory l.initial.texture l.texture (4 * l.j)
