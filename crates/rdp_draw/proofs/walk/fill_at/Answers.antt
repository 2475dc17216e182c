-- `rdp_draw::walk::fill_at` meets its contract. Assumes nothing.
use mathlib.Core.Path.{ap, ◌∙◌}
use Rattle.rdp_command.specs.Reads.{fill_fields}
use Rattle.rdp_draw.specs.Seen.{fill_words}
use Rattle.rdp_draw.proofs.walk.fill_at.Goals as goal

pub returns : goal.returns
returns c =
    let a = c.args in
    c.fill_fields.ensures ∙ ap (fill_fields (fill_words a.file.now)) c.word_at.ensures
