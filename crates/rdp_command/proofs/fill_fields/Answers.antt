use Rattle.rdp_command.proofs.fill_fields.Goals as goal

pub returns : goal.returns
returns c =
    λ i. record {
      cycle_type = c.cycle_type.ensures i;
      rectangle = c.rectangle.ensures i;
      scissor = c.scissor.ensures i;
      image = c.color_image.ensures i;
      color = c.fill_color.ensures i;
    }
