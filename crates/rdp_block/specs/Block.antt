-- Document 02, #112: Load Block. Its texels in order, what it needs, its refusals in their order, and what it leaves. Its fields are held as those of a Load Tile
-- are, just as they become its tile's size: dxt stands there as lower right t.
use Rattle.std.specs.Prelude.{ℕ, suc, ◌+◌, ◌-◌, ◌*◌, ◌/◌, ◌%◌, Bool, cond, ◌&&◌, List, [], ◌∷◌, eqb, leb, length}
use Rattle.rdp_command.specs.declared.LoadFields.{LoadFields}
use Rattle.rdp_check.specs.Order.{Ground, first_of}
use Rattle.rdp_texels.specs.Texels.{Move, moves_over, loaded, texel_address}
use Rattle.rdp_texels.specs.Load.{load_needs}
use Rattle.rdp_texels.specs.Refusals.{refusals, sized}

-- "lower right s - upper left s + 1 texels"; "s and t are whole texels here"
abbrev pub block_count : LoadFields → ℕ
block_count l = suc l.area.lower_right.s - l.area.upper_left.s

-- 17 "now judges Load Block as it does Load Tile, and refuses one of no texel or over 2,048"
unfoldable pub block_needs : LoadFields → Bool
block_needs l = load_needs l && (leb 1 (block_count l) && leb (block_count l) 2048)

-- "bit 2 turned over when floor(floor(k/4)·dxt / 2048) is odd"
abbrev pub is_turned : ℕ → ℕ → Bool
is_turned dxt k = eqb (k / 4 * dxt / 2048 % 2) 1

-- texel k: "from upper left s in row upper left t of the texture image, .. texels are read on"; it "goes to byte 8·tmem + 2·k"
abbrev pub block_move : LoadFields → ℕ → Move
block_move l k =
    record {
      address = texel_address l.image.address l.image.width (l.area.upper_left.s + k) l.area.upper_left.t;
      ahead = 8 * l.tile.address + 2 * k;
      behind = 0;
      odd = is_turned l.area.lower_right.t k;
    }

unfoldable pub block_moves : LoadFields → List Move
block_moves l = moves_over 0 (block_count l) (λ k. block_move l k ∷ [])

-- 17, 12 over all texels, 18 over all
abbrev pub block_refusals : LoadFields → ℕ → ℕ → List (Ground ℕ)
block_refusals l start len = refusals (block_needs l) start len (block_moves l)

-- the first that holds, or 0
unfoldable pub block_refusal : LoadFields → ℕ → ℕ → ℕ
block_refusal l start len = first_of (block_refusals l start len) 0

-- texture memory after a Load Block: a refusal leaves all as it was
unfoldable pub block_texture : LoadFields → ℕ → List ℕ → List ℕ → List ℕ
block_texture l start memory texture =
    cond (eqb (sized (length texture) (block_refusal l start (length memory))) 0) (loaded start memory (block_moves l) texture) texture
