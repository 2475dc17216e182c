use Rattle.rdp_command.proofs.registers.combiner.Goals as goal

pub returns : goal.returns
returns c =
    λ i. record {
      combine = c.combine_mode.ensures i;
      key_gb = c.key_gb.ensures i;
      key_r = c.key_r.ensures i;
      convert = c.convert.ensures i;
    }
