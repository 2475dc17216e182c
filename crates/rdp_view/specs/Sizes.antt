-- The size numbers of the pixels that are shown. No public contract cites this.
use Rattle.std.specs.Prelude.{ℕ, Bool, ◌||◌, eqb, ltb}
use Rattle.rdp_view.specs.declared.framebuffer.PixelSize.{PixelSize}
use Rattle.rdp_view.specs.declared.framebuffer.PixelSize.TheVariants.{Eight, Sixteen, ThirtyTwo}

abbrev pub size_number : PixelSize → ℕ
size_number Eight = 1
size_number Sixteen = 2
size_number ThirtyTwo = 3

-- a size number that is none
abbrev pub no_size : ℕ → Bool
no_size size = eqb size 0 || ltb 3 size
