use Rattle.rdp_command.proofs.register_fields.Goals as goal

pub returns : goal.returns
returns c =
    λ i. record {
      colors = c.colors.ensures i;
      combiner = c.combiner.ensures i;
      modes = c.modes.ensures i;
      images = c.images.ensures i;
    }
