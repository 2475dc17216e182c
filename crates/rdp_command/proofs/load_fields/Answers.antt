use mathlib.Core.Bool.{not}
use lib.Dec.{eqb}
use Rattle.rdp_command.proofs.load_fields.Goals as goal

pub returns : goal.returns
returns c =
    let set = c.args.set in
    λ i. record {
      image_set = not (eqb set.image 0);
      image = c.image.ensures i;
      tile_set = not (eqb set.tile 0);
      tile = c.tile_descriptor.ensures i;
      area = c.tile_area.ensures i;
    }
