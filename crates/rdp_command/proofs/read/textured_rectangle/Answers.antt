use mathlib.Core.List.{[], ◌∷◌}
use Rattle.rdp_command.specs.Layout.{textured_rectangle_lines}
use Rattle.rdp_command.specs.Fields.{fields_of}
use Rattle.rdp_command.specs.Groups.{nat_at}
use Rattle.rdp_command.proofs.read.textured_rectangle.Goals as goal

pub returns : goal.returns
returns c =
    let vs = fields_of textured_rectangle_lines (c.args.w0 ∷ []) in
    λ i. record {
      lower_right = record { x = nat_at vs 0; y = nat_at vs 1 };
      tile = nat_at vs 2;
      upper_left = record { x = nat_at vs 3; y = nat_at vs 4 };
      step = c.texture_step.ensures i;
    }
