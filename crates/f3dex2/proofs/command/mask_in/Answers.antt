-- The mask lies inside 32 bits.
use Rattle.std.proofs.Common.{arith}
use Rattle.f3dex2.proofs.MaskLaws.{below, mask_is}
use Rattle.f3dex2.proofs.command.mask_in.Goals as goal

pub overflow_sub-kept : goal.overflow_sub-kept
overflow_sub-kept c =
    rw (mask_is c.args.shift c.args.count c.requires) (omega (arith, below c.args.shift c.args.count c.requires))
