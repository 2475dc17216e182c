-- Documents 01 and 02 (#106, #112), refusals 10 to 12 and 16 to 18: the acts of a list, what drawing answers, and what it leaves in memory and texture memory.
use Rattle.std.specs.Prelude.{ℕ, ◌+◌, ◌/◌, ◌%◌, Bool, true, false, cond, not, List, [], ◌∷◌, ◌++◌, eqb, length}
use Rattle.rdp_words.specs.Kinds.{words_of}
use Rattle.rdp_words.specs.Lengths.{first_number}
use Rattle.rdp_command.specs.Decode.{decode_of, answer}
use Rattle.rdp_words.specs.Grounds.{Answer}
use Rattle.rdp_command.specs.Decode.{Decoded}
use Rattle.rdp_command.specs.Decode.{Whole, Refused}
use Rattle.rdp_command.specs.declared.Command.{Command}
use Rattle.rdp_command.specs.declared.Command.TheVariants.{NoOperation, FillTriangle, TextureRectangle, TextureRectangleFlip, SyncLoad, SyncPipe, SyncTile, SyncFull, SetKeyGb, SetKeyR, SetConvert, SetScissor, SetPrimitiveDepth, SetOtherModes, LoadTlut, SetTileSize, LoadBlock, LoadTile, SetTile, FillRectangle, SetFillColor, SetFogColor, SetBlendColor, SetPrimitiveColor, SetEnvironmentColor, SetCombineMode, SetTextureImage, SetDepthImage, SetColorImage, Unassigned}
use Rattle.rdp_command.specs.declared.Image.{Image}
use Rattle.rdp_command.specs.declared.Rectangle.{Rectangle}
use Rattle.rdp_command.specs.declared.TexturedRectangle.{TexturedRectangle}
use Rattle.rdp_command.specs.declared.TileArea.{TileArea}
use Rattle.rdp_command.specs.declared.Block.{Block}
use Rattle.rdp_command.specs.declared.FillFields.{FillFields}
use Rattle.rdp_command.specs.declared.CopyFields.{CopyFields}
use Rattle.rdp_command.specs.declared.LoadFields.{LoadFields}
use Rattle.rdp_check.specs.Order.{Ground, ground, first_of, placed}
use Rattle.rdp_check.specs.Commands.{commands_of}
use Rattle.rdp_check.specs.Registers.{no_registers, after_decoded, tile_of}
use Rattle.rdp_check.specs.Check.{check_refusals}
use Rattle.rdp_check.specs.Refusals as check
use Rattle.rdp_check.specs.declared.Registers.{Registers}
use Rattle.rdp_texels.specs.Texels.{some, outside_memory, outside_texture, loaded, copied}
use Rattle.rdp_texels.specs.Load.{load_needs, load_moves}
use Rattle.rdp_texels.specs.Copy.{copy_needs, copy_moves}
use Rattle.rdp_block.specs.Block.{block_needs, block_moves}
use Rattle.rdp_fill.specs.Fill.{outside, painted}

-- ---- the acts of a list

-- what drawing does at a command
pub data Act : Type 0 where
  -- the command is no draw and no load
  nothing : Act
  -- a draw that 10 refuses, of which the colour image counts
  other_draw : Image → Act
  -- Load TLUT, which 17 refuses
  other_load : Act
  -- Fill Rectangle in FILL mode
  filling : FillFields → Act
  -- Texture Rectangle in COPY mode
  copying : CopyFields → Act
  -- Load Tile
  loading : LoadFields → Act
  -- Load Block
  blocking : LoadFields → Act

-- a fill rectangle, a texture rectangle, and a Load Tile or a Load Block, each with the registers that it is done under
abbrev pub fill_of : Registers → Rectangle → FillFields
fill_of r g =
    record {
      cycle_type = r.modes.other.value.cycle_type;
      rectangle = g;
      scissor = r.modes.scissor.value;
      image = r.images.color.value;
      color = r.colors.fill.value;
    }

abbrev pub copy_of : Registers → TexturedRectangle → CopyFields
copy_of r g =
    let modes = r.modes.other.value in
    let tile = tile_of r.tiles g.tile in
    record {
      cycle_type = modes.cycle_type;
      rectangle = g;
      tile_set = tile.descriptor.set;
      tile = tile.descriptor.value;
      tile_corner = tile.size.value.upper_left;
      scissor = r.modes.scissor.value;
      image = r.images.color.value;
      perspective = modes.texture.persp_tex_en;
      lookup = modes.texture.tlut_en;
      alpha_compare = modes.pixel.alpha_compare_en;
    }

abbrev pub load_of : Registers → TileArea → LoadFields
load_of r g =
    let tile = tile_of r.tiles g.tile in
    record {
      image_set = r.images.texture.set;
      image = r.images.texture.value;
      tile_set = tile.descriptor.set;
      tile = tile.descriptor.value;
      area = g;
    }

-- the fields of a Load Block as those of the area that it leaves as its tile's size: dxt stands there as lower right t
abbrev pub block_area : Block → TileArea
block_area g =
    record { upper_left = g.upper_left; tile = g.tile; lower_right = record { s = g.lower_right_s; t = g.dxt } }

-- a fill rectangle in FILL mode, which is cycle type 3, and a texture rectangle in COPY mode, which is 2; in every other mode 10 refuses them
abbrev pub fill_act : FillFields → Act
fill_act f = cond (eqb f.cycle_type 3) (filling f) (other_draw f.image)

abbrev pub copy_act : CopyFields → Act
copy_act c = cond (eqb c.cycle_type 2) (copying c) (other_draw c.image)

-- a command with the registers before it
unfoldable pub act_of : Registers → Command → Act
act_of r (NoOperation g) = nothing
act_of r (FillTriangle g) = other_draw r.images.color.value
act_of r (TextureRectangle g) = copy_act (copy_of r g)
act_of r (TextureRectangleFlip g) = other_draw r.images.color.value
act_of r SyncLoad = nothing
act_of r SyncPipe = nothing
act_of r SyncTile = nothing
act_of r SyncFull = nothing
act_of r (SetKeyGb g) = nothing
act_of r (SetKeyR g) = nothing
act_of r (SetConvert g) = nothing
act_of r (SetScissor g) = nothing
act_of r (SetPrimitiveDepth g) = nothing
act_of r (SetOtherModes g) = nothing
act_of r (LoadTlut g) = other_load
act_of r (SetTileSize g) = nothing
act_of r (LoadBlock g) = blocking (load_of r (block_area g))
act_of r (LoadTile g) = loading (load_of r g)
act_of r (SetTile g) = nothing
act_of r (FillRectangle g) = fill_act (fill_of r g)
act_of r (SetFillColor g) = nothing
act_of r (SetFogColor g) = nothing
act_of r (SetBlendColor g) = nothing
act_of r (SetPrimitiveColor g) = nothing
act_of r (SetEnvironmentColor g) = nothing
act_of r (SetCombineMode g) = nothing
act_of r (SetTextureImage g) = nothing
act_of r (SetDepthImage g) = nothing
act_of r (SetColorImage g) = nothing
act_of r (Unassigned g) = nothing

abbrev pub act_of_decoded : Registers → Decoded → Act
act_of_decoded r (Whole c) = act_of r c
act_of_decoded r (Refused a) = nothing

-- an act and its place in the list
pub record Placed : Type 0 where
  pub place : ℕ
  pub act : Act

-- a command at a place, before some acts: one act more, or none
abbrev pub with_act : ℕ → Act → List Placed → List Placed
with_act at nothing acts = acts
with_act at (other_draw i) acts = record { place = at; act = other_draw i } ∷ acts
with_act at other_load acts = record { place = at; act = other_load } ∷ acts
with_act at (filling f) acts = record { place = at; act = filling f } ∷ acts
with_act at (copying c) acts = record { place = at; act = copying c } ∷ acts
with_act at (loading l) acts = record { place = at; act = loading l } ∷ acts
with_act at (blocking l) acts = record { place = at; act = blocking l } ∷ acts

-- the acts of the commands from a place on
unfoldable pub acts_from : Registers → ℕ → List (List ℕ) → List Placed
acts_from r at [] = []
acts_from r at (c ∷ cs) =
    with_act at (act_of_decoded r (decode_of c)) (acts_from (after_decoded r (decode_of c)) (at + words_of (first_number c)) cs)

abbrev pub acts_of : List ℕ → List Placed
acts_of list = acts_from no_registers 0 (commands_of list)

-- ---- what drawing answers

-- 10: "any draw but a Fill Rectangle drawn in FILL mode"; it "spares 0x24 in COPY mode"
abbrev pub is_other : Act → Bool
is_other nothing = false
is_other (other_draw i) = true
is_other other_load = false
is_other (filling f) = false
is_other (copying c) = false
is_other (loading l) = false
is_other (blocking l) = false

-- 11, at a draw: the colour image's address is no multiple of 64
abbrev pub misaligned : Image → Bool
misaligned i = not (eqb (i.address % 64) 0)

abbrev pub is_misaligned : Act → Bool
is_misaligned nothing = false
is_misaligned (other_draw i) = misaligned i
is_misaligned other_load = false
is_misaligned (filling f) = misaligned f.image
is_misaligned (copying c) = misaligned c.image
is_misaligned (loading l) = false
is_misaligned (blocking l) = false

-- 17: Load TLUT "in any drawn list", or a load or COPY rectangle that breaks a need; #112: it "judges Load Block as it does Load Tile"
abbrev pub is_unready : Act → Bool
is_unready nothing = false
is_unready (other_draw i) = false
is_unready other_load = true
is_unready (filling f) = false
is_unready (copying c) = not (copy_needs c)
is_unready (loading l) = not (load_needs l)
is_unready (blocking l) = not (block_needs l)

-- 12: a byte of a kept pixel, or of a texel loaded, is outside the memory of `len` bytes that starts at address `start`
abbrev pub is_outside : ℕ → ℕ → Act → Bool
is_outside start len nothing = false
is_outside start len (other_draw i) = false
is_outside start len other_load = false
is_outside start len (filling f) = outside f start len
is_outside start len (copying c) = some (outside_memory start len) (copy_moves c)
is_outside start len (loading l) = some (outside_memory start len) (load_moves l)
is_outside start len (blocking l) = some (outside_memory start len) (block_moves l)

-- 18: "a texture byte, loaded to or read for a kept pixel, below 0 or at 4,096 or above"
abbrev pub is_beyond : Act → Bool
is_beyond nothing = false
is_beyond (other_draw i) = false
is_beyond other_load = false
is_beyond (filling f) = false
is_beyond (copying c) = some outside_texture (copy_moves c)
is_beyond (loading l) = some outside_texture (load_moves l)
is_beyond (blocking l) = some outside_texture (block_moves l)

-- the refusals of an act, in their order: "at a command, after 10 and 11, 17 ..; then 12 ..; then 18"
unfoldable pub act_refusals : ℕ → ℕ → Act → List (Ground ℕ)
act_refusals start len a =
    ground 10 (is_other a) ∷ ground 11 (is_misaligned a) ∷ ground 17 (is_unready a) ∷ ground 12 (is_outside start len a) ∷ ground 18 (is_beyond a) ∷ []

-- those of acts in order, each at its place
unfoldable pub act_grounds : ℕ → ℕ → List Placed → List (Ground Answer)
act_grounds start len [] = []
act_grounds start len (p ∷ acts) = placed p.place (act_refusals start len p.act) ++ act_grounds start len acts

-- 16: "lent texture memory not 4,096 bytes, at place 0, after the check and before the second walk"
abbrev pub texture_ground : ℕ → Ground Answer
texture_ground size = ground (answer 16 0) (not (eqb size 4096))

-- the refusals of drawing in their order: "drawing runs the whole check, then walks again". Memory has `len` bytes from address `start` on, texture memory
-- `size`
abbrev pub draw_grounds : List ℕ → ℕ → ℕ → ℕ → List (Ground Answer)
draw_grounds list start len size = check.grounds_of 4096 check_refusals list ++ texture_ground size ∷ act_grounds start len (acts_of list)

-- what drawing answers: the first that holds; 0 at the number of words where none does
unfoldable pub draw_answer : List ℕ → ℕ → ℕ → ℕ → Answer
draw_answer list start len size = first_of (draw_grounds list start len size) (answer 0 (length list / 8))

-- ---- what it leaves in memory and texture memory

pub record Memories : Type 0 where
  pub memory : List ℕ
  pub texture : List ℕ

abbrev pub memories : List ℕ → List ℕ → Memories
memories memory texture = record { memory = memory; texture = texture }

-- after an act, where memory starts at address `start`
abbrev pub acted : ℕ → Act → Memories → Memories
acted start nothing m = m
acted start (other_draw i) m = m
acted start other_load m = m
acted start (filling f) m = memories (painted f start m.memory) m.texture
acted start (copying c) m = memories (copied start m.texture (copy_moves c) m.memory) m.texture
acted start (loading l) m = memories m.memory (loaded start m.memory (load_moves l) m.texture)
acted start (blocking l) m = memories m.memory (loaded start m.memory (block_moves l) m.texture)

-- after acts, each over what the earlier ones left: "commands act in list order"
unfoldable pub acted_all : ℕ → List Placed → Memories → Memories
acted_all start [] m = m
acted_all start (p ∷ acts) m = acted_all start acts (acted start p.act m)

-- a refusal leaves all as it was
unfoldable pub drawn : List ℕ → ℕ → Memories → Memories
drawn list start m =
    cond (eqb (draw_answer list start (length m.memory) (length m.texture)).number 0) (acted_all start (acts_of list) m) m
