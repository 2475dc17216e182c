use mathlib.Core.Path.{ap, ◌∙◌}
use Rattle.rdp_command.specs.Reads.{head_of}
use Rattle.rdp_command.proofs.head_at.Goals as goal

pub returns : goal.returns
returns c =
    (λ i. record { number = c.number_in.ensures i; cycle_type = c.cycle_type.ensures i; image_size = c.image_size.ensures i }) ∙
    ap head_of c.word_at-w.ensures
