-- Document 02, #106: the refusals of a load and of a copy rectangle, each on its own and in their order, and what each leaves. None of them depends on what
-- memory holds.
use Rattle.std.specs.Prelude.{ℕ, Bool, cond, not, List, [], ◌∷◌, eqb, length}
use Rattle.rdp_command.specs.declared.LoadFields.{LoadFields}
use Rattle.rdp_command.specs.declared.CopyFields.{CopyFields}
use Rattle.rdp_check.specs.Order.{Ground, ground, first_of}
use Rattle.rdp_texels.specs.Texels.{Move, some, outside_memory, outside_texture, loaded, copied}
use Rattle.rdp_texels.specs.Load.{load_needs, load_moves}
use Rattle.rdp_texels.specs.Copy.{copy_needs, copy_moves}

-- 17 where a need is broken, "then 12, also for texels loaded; then 18, a texture byte, loaded to or read for a kept pixel, below 0 or at 4,096 or above":
-- at one command each is judged over all its texels
abbrev pub refusals : Bool → ℕ → ℕ → List Move → List (Ground ℕ)
refusals needs start len ms =
    ground 17 (not needs) ∷ ground 12 (some (outside_memory start len) ms) ∷ ground 18 (some outside_texture ms) ∷ []

abbrev pub load_refusals : LoadFields → ℕ → ℕ → List (Ground ℕ)
load_refusals l start len = refusals (load_needs l) start len (load_moves l)

abbrev pub copy_refusals : CopyFields → ℕ → ℕ → List (Ground ℕ)
copy_refusals c start len = refusals (copy_needs c) start len (copy_moves c)

-- the first that holds, or 0
unfoldable pub load_refusal : LoadFields → ℕ → ℕ → ℕ
load_refusal l start len = first_of (load_refusals l start len) 0

unfoldable pub copy_refusal : CopyFields → ℕ → ℕ → ℕ
copy_refusal c start len = first_of (copy_refusals c start len) 0

-- 16 before these: "lent texture memory not 4,096 bytes"
abbrev pub sized : ℕ → ℕ → ℕ
sized size refusal = first_of (ground 16 (not (eqb size 4096)) ∷ []) refusal

-- what a load leaves in texture memory, and a copy rectangle in memory: a refusal leaves all as it was
unfoldable pub load_texture : LoadFields → ℕ → List ℕ → List ℕ → List ℕ
load_texture l start memory texture =
    cond (eqb (sized (length texture) (load_refusal l start (length memory))) 0) (loaded start memory (load_moves l) texture) texture

unfoldable pub copy_memory : CopyFields → ℕ → List ℕ → List ℕ → List ℕ
copy_memory c start texture memory =
    cond (eqb (sized (length texture) (copy_refusal c start (length memory))) 0) (copied start texture (copy_moves c) memory) memory
