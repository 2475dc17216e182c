use Rattle.rdp_command.proofs.registers.modes.Goals as goal

pub returns : goal.returns
returns c =
    λ i. record {
      other = c.other_modes.ensures i;
      depth = c.primitive_depth.ensures i;
      scissor = c.scissor.ensures i;
    }
