use mathlib.Core.Bool.{not}
use lib.Dec.{eqb}
use Rattle.rdp_command.proofs.copy_fields.Goals as goal

pub returns : goal.returns
returns c =
    let set = c.args.set in
    λ i. record {
      cycle_type = c.cycle_type.ensures i;
      rectangle = c.textured_rectangle.ensures i;
      tile_set = not (eqb set.tile 0);
      tile = c.tile_descriptor.ensures i;
      tile_corner = (c.tile_area-size.ensures i).upper_left;
      scissor = c.scissor.ensures i;
      image = c.color_image.ensures i;
      perspective = c.perspective.ensures i;
      lookup = c.lookup.ensures i;
      alpha_compare = c.alpha_compare.ensures i;
    }
