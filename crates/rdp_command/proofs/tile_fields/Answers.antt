use Rattle.rdp_command.proofs.tile_fields.Goals as goal

pub returns : goal.returns
returns c = λ i. record { descriptor = c.tile_descriptor.ensures i; area = c.tile_area.ensures i }
