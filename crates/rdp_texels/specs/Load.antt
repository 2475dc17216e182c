-- Document 02, #106: Load Tile. Its texels in order, and what it needs.
use Rattle.std.specs.Prelude.{ℕ, ◌/◌, Bool, ◌&&◌, List, [], ◌∷◌, eqb}
use Rattle.rdp_command.specs.declared.LoadFields.{LoadFields}
use Rattle.rdp_texels.specs.Texels.{Move, texel, texel_address, moves_through}

-- the texel in column x and row y of the texture image. "A texel's source is texture image address + (row·width + column)·2"; "the texel in row r and column
-- c of that block": in the block it stands in row y - top and column x - left
abbrev pub load_move : LoadFields → ℕ → ℕ → Move
load_move l y x =
    texel (texel_address l.image.address l.image.width x y) l.tile.address l.tile.line y (l.area.upper_left.t / 4) x
    (l.area.upper_left.s / 4)

-- "the columns and rows from floor of upper left to floor of lower right, both included, none if an end is below its start"; "texels are taken row by row"
unfoldable pub load_moves : LoadFields → List Move
load_moves l =
    moves_through (l.area.upper_left.t / 4) (l.area.lower_right.t / 4)
    (λ y. moves_through (l.area.upper_left.s / 4) (l.area.lower_right.s / 4) (λ x. load_move l y x ∷ []))

-- 16-bit RGBA: format 0, size 2
abbrev pub rgba16 : ℕ → ℕ → Bool
rgba16 format size = eqb format 0 && eqb size 2

-- 17 refuses a load "whose texture image .. or descriptor isn't set and 16-bit RGBA"
unfoldable pub load_needs : LoadFields → Bool
load_needs l =
    (l.image_set && rgba16 l.image.format l.image.size)
    && (l.tile_set && rgba16 l.tile.format l.tile.size)
