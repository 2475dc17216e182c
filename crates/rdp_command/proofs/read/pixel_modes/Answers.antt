use mathlib.Core.List.{[], ◌∷◌}
use Rattle.rdp_command.specs.Layout.{pixel_modes_lines}
use Rattle.rdp_command.specs.Fields.{fields_of}
use Rattle.rdp_command.specs.Groups.{nat_at, flag_at}
use Rattle.rdp_command.proofs.read.pixel_modes.Goals as goal

pub returns : goal.returns
returns c =
    let vs = fields_of pixel_modes_lines (c.args.w ∷ []) in
    λ i. record {
      force_blend = flag_at vs 0;
      alpha_cvg_select = flag_at vs 1;
      cvg_x_alpha = flag_at vs 2;
      z_mode = nat_at vs 3;
      cvg_dest = nat_at vs 4;
      color_on_cvg = flag_at vs 5;
      image_read_en = flag_at vs 6;
      z_update_en = flag_at vs 7;
      z_compare_en = flag_at vs 8;
      antialias_en = flag_at vs 9;
      z_source_sel = flag_at vs 10;
      dither_alpha_en = flag_at vs 11;
      alpha_compare_en = c.alpha_compare.ensures i;
    }
