-- The numbers of grounds. Assumes nothing.
use Rattle.std.proofs.Common.{◌≡◌}
use Rattle.std.proofs.Common.{◌<◌, arith}
use Rattle.rdp_words.specs.Grounds.{number_of}
use Rattle.rdp_words.specs.declared.grounds.Ground.{Ground}

-- no ground has the number of acceptance
pub some_number : (g : Ground) → 0 < number_of g
some_number g = search arith

pub refused-number : (g : Ground) → number_of g ≡ 0 → ⊥
refused-number g z = omega (arith, some_number g)
