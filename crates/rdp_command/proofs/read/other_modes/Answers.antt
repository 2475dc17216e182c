use mathlib.Core.List.{[], ◌∷◌}
use Rattle.rdp_command.specs.Layout.{other_modes_lines}
use Rattle.rdp_command.specs.Fields.{fields_of}
use Rattle.rdp_command.specs.Groups.{nat_at, flag_at}
use Rattle.rdp_command.proofs.read.other_modes.Goals as goal

pub returns : goal.returns
returns c =
    let vs = fields_of other_modes_lines (c.args.w ∷ []) in
    λ i. record {
      atomic_prim = flag_at vs 0;
      cycle_type = c.cycle_type.ensures i;
      texture = c.texture_modes.ensures i;
      key_en = flag_at vs 13;
      rgb_dither_sel = nat_at vs 14;
      alpha_dither_sel = nat_at vs 15;
      blender = c.blender_inputs.ensures i;
      pixel = c.pixel_modes.ensures i;
    }
