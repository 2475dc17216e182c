-- `rdp_draw::walk::load_at` meets its contract. Assumes nothing.
use mathlib.Core.Path.{ap, ◌∙◌}
use Rattle.rdp_command.specs.Reads.{load_fields}
use Rattle.rdp_state.specs.RegisterWords.{tile_in}
use Rattle.rdp_draw.specs.Seen.{load_words}
use Rattle.rdp_draw.proofs.walk.load_at.Goals as goal

pub returns : goal.returns
returns c =
    let a = c.args in
    let word = c.word_at-word.ensures in
    let tile = c.tile_in-tile.ensures.0 ∙ ap tile_in word in
    c.load_fields.ensures ∙ (λ i. load_fields (load_words a.file.now (tile i)) (word i))
