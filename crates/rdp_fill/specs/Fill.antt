-- Document 01, "Fill": the bytes that a fill rectangle covers, pixel by pixel, and what it writes there.
use Rattle.std.specs.Prelude.{ℕ, ◌+◌, ◌-◌, ◌*◌, ◌/◌, ◌%◌, ◌^◌, Bool, cond, not, ◌&&◌, List, eqb, length}
use Rattle.rdp_command.specs.declared.Image.{Image}
use Rattle.rdp_command.specs.declared.FillFields.{FillFields}
use Rattle.rdp_pixels.specs.Overlay.{overlay, within}
use Rattle.rdp_pixels.specs.Range.{one_of, one_through}
use Rattle.rdp_pixels.specs.Kept.{kept}

-- "the byte at address a is byte a mod 4 of the fill colour, most significant first"
unfoldable pub color_byte : ℕ → ℕ → ℕ
color_byte color a = color / 2 ^ (24 - 8 * (a % 4)) % 256

-- the bytes of a pixel: sizes 1, 2, 3 are 8, 16, 32 bits. A pixel of 4 bits has no byte of its own; 6 refuses to fill such an image
unfoldable pub bytes_per_pixel : ℕ → ℕ
bytes_per_pixel size = cond (eqb size 1) 1 (cond (eqb size 2) 2 (cond (eqb size 3) 4 0))

-- "colour address + (y·width + x)·bytes per pixel"; the field holds the width minus one
unfoldable pub pixel_address : Image → ℕ → ℕ → ℕ
pixel_address i x y = i.address + (y * (i.width + 1) + x) * bytes_per_pixel i.size

-- the address of a byte of a kept pixel passes the test. "Columns run from floor(left/4) to floor(right/4), both included; rows likewise"
unfoldable pub some_byte : FillFields → (ℕ → Bool) → Bool
some_byte f test =
    let r = f.rectangle in
    one_through (r.upper_left.y / 4) (r.lower_right.y / 4)
    (λ y. one_through (r.upper_left.x / 4) (r.lower_right.x / 4)
    (λ x. kept f.scissor x y && one_of (pixel_address f.image x y) (bytes_per_pixel f.image.size) test))

-- the fill covers address a: a kept pixel has a byte there
abbrev pub covers : FillFields → ℕ → Bool
covers f a = some_byte f (eqb a)

-- a byte of a kept pixel is outside the memory of `len` bytes that starts at address `start`
abbrev pub outside : FillFields → ℕ → ℕ → Bool
outside f start len = some_byte f (λ a. not (within start (start + len) a))

-- memory that starts at address `start`, after the fill is drawn
abbrev pub painted : FillFields → ℕ → List ℕ → List ℕ
painted f start memory = overlay (covers f) (color_byte f.color) start memory

-- the same, where a fill of which a byte is outside leaves all as it was
abbrev pub fill_memory : FillFields → ℕ → List ℕ → List ℕ
fill_memory f start memory = cond (outside f start (length memory)) memory (painted f start memory)
