-- `rdp_draw::walk::copy_at` meets its contract. Assumes nothing.
use mathlib.Core.Path.{ap, ◌∙◌}
use Rattle.rdp_command.specs.Reads.{copy_fields}
use Rattle.rdp_state.specs.RegisterWords.{tile_in}
use Rattle.rdp_draw.specs.Seen.{copy_words}
use Rattle.rdp_draw.proofs.walk.copy_at.Goals as goal

pub returns : goal.returns
returns c =
    let a = c.args in
    let word = c.word_at-word.ensures in
    let tile = c.tile_in-tile.ensures.0 ∙ ap tile_in word in
    let second = c.word_at.ensures in
    c.copy_fields.ensures ∙ (λ i. copy_fields (copy_words a.file.now (tile i)) (word i) (second i))
