use Rattle.rdp_command.proofs.Signed.{read_back}
use Rattle.rdp_command.proofs.read.texture_step.Goals as goal

pub returns : goal.returns
returns c =
    rw (
      read_back c.sign_extend.type_inv c.sign_extend.ensures,
      read_back c.sign_extend-2.type_inv c.sign_extend-2.ensures,
      read_back c.sign_extend-3.type_inv c.sign_extend-3.ensures,
      read_back c.sign_extend-4.type_inv c.sign_extend-4.ensures,
    )
