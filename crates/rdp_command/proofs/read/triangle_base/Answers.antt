use mathlib.Core.List.{[], ◌∷◌}
use Rattle.rdp_command.specs.Layout.{triangle_head_lines}
use Rattle.rdp_command.specs.Fields.{fields_of}
use Rattle.rdp_command.specs.Groups.{nat_at, flag_at}
use Rattle.rdp_command.proofs.Signed.{read_back}
use Rattle.rdp_command.proofs.read.triangle_base.Goals as goal

pub returns : goal.returns
returns c =
    let vs = fields_of triangle_head_lines (c.args.w0 ∷ []) in
    λ i. record {
      shade = flag_at vs 0;
      texture = flag_at vs 1;
      zbuffer = flag_at vs 2;
      lmajor = flag_at vs 3;
      level = nat_at vs 4;
      tile = nat_at vs 5;
      yl = read_back c.sign_extend.type_inv c.sign_extend.ensures i;
      ym = read_back c.sign_extend-2.type_inv c.sign_extend-2.ensures i;
      yh = read_back c.sign_extend-3.type_inv c.sign_extend-3.ensures i;
      l = c.edge.ensures i;
      h = c.edge-2.ensures i;
      m = c.edge-3.ensures i;
    }
