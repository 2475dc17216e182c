use Rattle.rdp_command.proofs.Signed.{read_back}
use Rattle.rdp_command.proofs.read.edge.Goals as goal

pub returns : goal.returns
returns c =
    rw (read_back c.sign_extend.type_inv c.sign_extend.ensures, read_back c.sign_extend-2.type_inv c.sign_extend-2.ensures)
