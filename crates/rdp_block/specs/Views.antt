-- What the code carries, as the definitions have it. No public contract cites this.
use Rattle.std.specs.Prelude.{ℕ}
use Rattle.rdp_block.specs.declared.strips.Block.{Block}
use Rattle.rdp_block.specs.Strips as strips
use Rattle.rdp_block.specs.Strips.{Strip}

abbrev pub stripped : Block → Strip
stripped b = record { address = b.address; start = b.start; ahead = b.ahead; dxt = b.dxt; count = b.count }

abbrev pub Fits : Block → ℕ → ℕ → Type 0
Fits b len bytes = strips.Fits (stripped b) len bytes
