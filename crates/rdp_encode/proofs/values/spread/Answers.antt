use Rattle.std.proofs.Common.{List, length, Some, ap, ◌∙◌}
use Rattle.rdp_command.specs.Layout.{Line}
use Rattle.rdp_command.specs.declared.Command.TheVariants.{FillTriangle}
use Rattle.rdp_command.proofs.Triangles.{triangle-layout, triangle-small}
use Rattle.rdp_encode.specs.Encode.{numbers_of}
use Rattle.rdp_encode.specs.Numbers.{values_from}
use Rattle.rdp_encode.proofs.Spreading.{spread-as}
use Rattle.rdp_encode.proofs.values.spread.Goals as goal

pub returns-in-FillTriangle : goal.returns-in-FillTriangle
returns-in-FillTriangle c =
    let g = c.in-FillTriangle.g in
    let made = c.new-in-FillTriangle.ensures in
    spread-as c.in-FillTriangle.is
    (record {
      number = made.0 ∙ ap Some c.triangle_number.ensures;
      numbers = made.1 ∙ c.triangle_base.ensures.0;
      kept = ap (λ (ls : List Line). values_from ls (numbers_of (FillTriangle g))) (triangle-layout g) ∙ c.triangle_base.ensures.1;
      sized = λ _. ap length (triangle-layout g);
      small = λ _. triangle-small g;
    })
