use Rattle.rdp_command.proofs.registers.colors.Goals as goal

pub returns : goal.returns
returns c =
    λ i. record {
      fill = c.fill_color.ensures i;
      fog = c.color.ensures i;
      blend = c.color-2.ensures i;
      primitive = c.primitive_color.ensures i;
      environment = c.color-3.ensures i;
    }
