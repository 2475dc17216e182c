-- Document 02, #106: a run of bytes that is moved as it stands, or with one side turned as an odd row of texture memory is.
use Rattle.std.specs.Prelude.{ℕ, ◌+◌, ◌-◌, Bool, false, cond, ◌&&◌, List, eqb, leb, length, get_or}
use Rattle.rdp_pixels.specs.Overlay.{overlay, within}
use Rattle.rdp_texels.specs.Texels.{in_row}

-- bytes a up to b of a row, taken from index s on of `from` to index d on of `to`; the one side or the other is turned
unfoldable pub part : Bool → Bool → ℕ → ℕ → ℕ → ℕ → List ℕ → List ℕ → List ℕ
part turn_to turn_from s d a b from to =
    overlay (λ i. within (d + a) (d + b) (in_row turn_to i)) (λ i. get_or from (in_row turn_from (s + (in_row turn_to i - d))) 0) 0 to

-- texture memory has 4,096 bytes; n bytes from index s on are in memory of `len` bytes, and n from byte d on in texture memory, which has `size`
abbrev pub run_fits : ℕ → ℕ → ℕ → ℕ → ℕ → Bool
run_fits len s size d n = eqb size 4096 && (leb (s + n) len && leb (d + n) size)

-- texture memory with such a run loaded, which is turned where its row is odd. Where texture memory has not 4,096 bytes, or not all of both are there, nothing
-- is loaded
unfoldable pub run_texture : ℕ → ℕ → ℕ → Bool → List ℕ → List ℕ → List ℕ
run_texture s d n odd memory texture =
    cond (run_fits (length memory) s (length texture) d n) (part odd false s d 0 n memory texture) texture
