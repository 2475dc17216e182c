use Rattle.rdp_command.proofs.registers.images.Goals as goal

pub returns : goal.returns
returns c =
    λ i. record {
      color = c.color_image.ensures i;
      texture = c.image.ensures i;
      depth = c.depth_image.ensures i;
    }
