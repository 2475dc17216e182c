-- A Load Block as a strip of texels, by numbers. No public contract cites this.
use Rattle.std.specs.Prelude.{ℕ, ◌+◌, ◌*◌, ◌/◌, ◌%◌, ◌<◌, ◌≤◌, Bool, cond, ◌&&◌, List, [], ◌∷◌, ◌≡◌, leb}
use Rattle.rdp_command.specs.declared.LoadFields.{LoadFields}
use Rattle.rdp_texels.specs.Texels.{Move, moves_over, texel_address}
use Rattle.rdp_block.specs.Block.{block_count, is_turned}

-- texel k at address `address + 2 k` of memory, which begins at `start`, goes to byte `ahead + 2 k` of texture memory, turned by dxt
pub record Strip : Type 0 where
  pub address : ℕ
  pub start : ℕ
  pub ahead : ℕ
  pub dxt : ℕ
  pub count : ℕ

abbrev pub strip_move : Strip → ℕ → Move
strip_move q k = record { address = q.address + 2 * k; ahead = q.ahead + 2 * k; behind = 0; odd = is_turned q.dxt k }

-- n texels from texel k on
unfoldable pub strip_moves : Strip → ℕ → ℕ → List Move
strip_moves q k n = moves_over k n (λ i. strip_move q i ∷ [])

abbrev pub strip_of : ℕ → LoadFields → Strip
strip_of start l =
    record {
      start = start;
      address = texel_address l.image.address l.image.width l.area.upper_left.s l.area.upper_left.t;
      ahead = 8 * l.tile.address;
      dxt = l.area.lower_right.t;
      count = block_count l;
    }

-- 2 bytes for each of `count` texels from `base` on are among the `size` bytes from `low` on
abbrev pub flat : ℕ → ℕ → ℕ → ℕ → Bool
flat base count low size = leb low base && leb (base + 2 * count) (low + size)

abbrev pub strip_refusal : Strip → ℕ → ℕ
strip_refusal q len = cond (flat q.address q.count q.start len) (cond (flat q.ahead q.count 0 4096) 0 18) 12

-- every texel of the strip is there, in memory of `len` bytes and in texture memory
pub record Fits (q : Strip) (len bytes : ℕ) : Type 0 where
  pub from : q.start ≤ q.address
  pub memory : q.address + 2 * q.count ≤ q.start + len
  pub texture : q.ahead + 2 * q.count ≤ 4096
  pub whole : q.ahead % 8 ≡ 0
  pub size : bytes ≡ 4096

-- where the texels of a line end, of `count` in all
pub record LineEnds (line dxt count r : ℕ) : Type 0 where
  pub most : r ≤ count
  pub within : (i : ℕ) → i < r → i / 4 * dxt < (line + 1) * 2048
  pub beyond : (i : ℕ) → i < count → i / 4 * dxt < (line + 1) * 2048 → i < r
