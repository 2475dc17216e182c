-- The registers that the check and the drawing look at, before and after a command. Assumes nothing.
use Prim.Native.Nat.{ℕ}
use mathlib.Core.Path.{◌≡◌, refl}
use Rattle.rdp_command.specs.Commands.{number_of}
use Rattle.rdp_command.specs.declared.Command.{Command}
use Rattle.rdp_command.specs.declared.Command.TheVariants.{NoOperation, FillTriangle, TextureRectangle, TextureRectangleFlip, SyncLoad, SyncPipe, SyncTile, SyncFull, SetKeyGb, SetKeyR, SetConvert, SetScissor, SetPrimitiveDepth, SetOtherModes, LoadTlut, SetTileSize, LoadBlock, LoadTile, SetTile, FillRectangle, SetFillColor, SetFogColor, SetBlendColor, SetPrimitiveColor, SetEnvironmentColor, SetCombineMode, SetTextureImage, SetDepthImage, SetColorImage, Unassigned}
use Rattle.rdp_check.specs.Registers.{registers_after}
use Rattle.rdp_check.specs.declared.Registers.{Registers}

-- the scissor, the other modes, the fill colour and the colour image before and after a command: each is set by one number alone
pub record Keeps (before after : Registers) (n : ℕ) : Type 0 where
  pub scissor : (n ≡ 0x2D → ⊥) → after.modes.scissor ≡ before.modes.scissor
  pub modes : (n ≡ 0x2F → ⊥) → after.modes.other ≡ before.modes.other
  pub color : (n ≡ 0x37 → ⊥) → after.colors.fill ≡ before.colors.fill
  pub image : (n ≡ 0x3F → ⊥) → after.images.color ≡ before.images.color

kept :
    {r q : Registers} {n : ℕ} → q.modes.scissor ≡ r.modes.scissor → q.modes.other ≡ r.modes.other → q.colors.fill ≡ r.colors.fill →
    q.images.color ≡ r.images.color → Keeps r q n
kept s m c i = record { scissor = λ h. s; modes = λ h. m; color = λ h. c; image = λ h. i }

pub keeps : (r : Registers) (c : Command) → Keeps r (registers_after r c) (number_of c)
unfolding registers_after
keeps r (NoOperation n) = kept refl refl refl refl
keeps r (FillTriangle g) = kept refl refl refl refl
keeps r (TextureRectangle g) = kept refl refl refl refl
keeps r (TextureRectangleFlip g) = kept refl refl refl refl
keeps r SyncLoad = kept refl refl refl refl
keeps r SyncPipe = kept refl refl refl refl
keeps r SyncTile = kept refl refl refl refl
keeps r SyncFull = kept refl refl refl refl
keeps r (SetKeyGb g) = kept refl refl refl refl
keeps r (SetKeyR g) = kept refl refl refl refl
keeps r (SetConvert g) = kept refl refl refl refl
keeps r (SetScissor g) = record { scissor = λ h. absurd (h refl); modes = λ h. refl; color = λ h. refl; image = λ h. refl }
keeps r (SetPrimitiveDepth g) = kept refl refl refl refl
keeps r (SetOtherModes g) = record { scissor = λ h. refl; modes = λ h. absurd (h refl); color = λ h. refl; image = λ h. refl }
keeps r (LoadTlut g) = kept refl refl refl refl
keeps r (SetTileSize g) = kept refl refl refl refl
keeps r (LoadBlock g) = kept refl refl refl refl
keeps r (LoadTile g) = kept refl refl refl refl
keeps r (SetTile g) = kept refl refl refl refl
keeps r (FillRectangle g) = kept refl refl refl refl
keeps r (SetFillColor g) = record { scissor = λ h. refl; modes = λ h. refl; color = λ h. absurd (h refl); image = λ h. refl }
keeps r (SetFogColor g) = kept refl refl refl refl
keeps r (SetBlendColor g) = kept refl refl refl refl
keeps r (SetPrimitiveColor g) = kept refl refl refl refl
keeps r (SetEnvironmentColor g) = kept refl refl refl refl
keeps r (SetCombineMode g) = kept refl refl refl refl
keeps r (SetTextureImage g) = kept refl refl refl refl
keeps r (SetDepthImage g) = kept refl refl refl refl
keeps r (SetColorImage g) = record { scissor = λ h. refl; modes = λ h. refl; color = λ h. refl; image = λ h. absurd (h refl) }
keeps r (Unassigned n) = kept refl refl refl refl
