use mathlib.Core.List.{[], ◌∷◌}
use Rattle.rdp_command.specs.Layout.{color_image_lines}
use Rattle.rdp_command.specs.Fields.{fields_of}
use Rattle.rdp_command.specs.Groups.{nat_at}
use Rattle.rdp_command.proofs.read.color_image.Goals as goal

pub returns : goal.returns
returns c =
    let vs = fields_of color_image_lines (c.args.w ∷ []) in
    λ i. record {
      format = nat_at vs 0;
      size = c.image_size.ensures i;
      width = nat_at vs 2;
      address = nat_at vs 3;
    }
