use Prim.Native.Nat.{◌/◌, ◌%◌, ◌^◌}
use Rattle.rdp_command.proofs.read.primitive_color.Goals as goal

pub returns : goal.returns
returns c =
    let w = c.args.w in
    λ i. record { min_level = w / 2 ^ 40 % 2 ^ 8; prim_lod_frac = w / 2 ^ 32 % 2 ^ 8; color = c.color.ensures i }
