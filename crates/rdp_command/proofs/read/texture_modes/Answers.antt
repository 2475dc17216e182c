use mathlib.Core.List.{[], ◌∷◌}
use Rattle.rdp_command.specs.Layout.{texture_modes_lines}
use Rattle.rdp_command.specs.Fields.{fields_of}
use Rattle.rdp_command.specs.Groups.{flag_at}
use Rattle.rdp_command.proofs.read.texture_modes.Goals as goal

pub returns : goal.returns
returns c =
    let vs = fields_of texture_modes_lines (c.args.w ∷ []) in
    λ i. record {
      persp_tex_en = c.perspective.ensures i;
      detail_tex_en = flag_at vs 1;
      sharpen_tex_en = flag_at vs 2;
      tex_lod_en = flag_at vs 3;
      tlut_en = c.lookup.ensures i;
      tlut_type = flag_at vs 5;
      sample_type = flag_at vs 6;
      mid_texel = flag_at vs 7;
      bi_lerp_0 = flag_at vs 8;
      bi_lerp_1 = flag_at vs 9;
      convert_one = flag_at vs 10;
    }
