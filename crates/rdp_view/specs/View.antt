-- Document 02, #113: "a layer above drawing that turns a finished image (8, 16 or 32 bits, with width and height) into RGBA rows, four bytes a pixel".
use Rattle.std.specs.Prelude.{ℕ, zero, suc, ◌+◌, ◌*◌, ◌-◌, ◌/◌, ◌%◌, Bool, cond, ◌||◌, List, [], ◌∷◌, ◌++◌, eqb, ltb, length, get_or, drop}
use Rattle.rdp_words.specs.Words.{overwrite}
use Rattle.rdp_words.specs.Grounds.{Answer}
use Rattle.rdp_command.specs.Decode.{answer}
use Rattle.rdp_check.specs.Order.{Ground, ground, first_of}

-- ---- pixels

-- the bytes of a pixel by its size number: 1 is 8 bits, 2 is 16 and 3 is 32
abbrev pub pixel_bytes : ℕ → ℕ
pixel_bytes size = cond (eqb size 1) 1 (cond (eqb size 2) 2 4)

-- "A five-bit channel v .. becomes 8v + floor(v/4)"
abbrev pub channel : ℕ → ℕ
channel v = 8 * v + v / 4

-- "an 8-bit value fills red, green and blue with alpha 255"
abbrev pub of_eight : ℕ → List ℕ
of_eight v = v ∷ v ∷ v ∷ 255 ∷ []

-- a pixel of 16 bits: "(red highest) .., the single, lowest alpha bit 0 or 255"
abbrev pub of_sixteen : ℕ → List ℕ
of_sixteen w = channel (w / 2048 % 32) ∷ channel (w / 64 % 32) ∷ channel (w / 2 % 32) ∷ w % 2 * 255 ∷ []

-- the four bytes of the pixel that bytes begin with; "a 32-bit pixel is copied"
unfoldable pub rgba : ℕ → List ℕ → List ℕ
rgba size bs =
    cond (eqb size 1) (of_eight (get_or bs 0 0))
    (cond (eqb size 2) (of_sixteen (get_or bs 0 0 * 256 + get_or bs 1 0))
    (get_or bs 0 0 ∷ get_or bs 1 0 ∷ get_or bs 2 0 ∷ get_or bs 3 0 ∷ []))

-- "RGBA rows": so many pixels, one after the other
unfoldable pub pixels : ℕ → ℕ → List ℕ → List ℕ
pixels size zero bs = []
pixels size (suc n) bs = rgba size bs ++ pixels size n (drop (pixel_bytes size) bs)

-- ---- what is answered and written

-- 27: "width or height 0 or above 1,024, or a size number not 1 to 3"
abbrev pub unfit : ℕ → Bool
unfit side = eqb side 0 || ltb 1024 side

abbrev pub unviewable : ℕ → ℕ → ℕ → Bool
unviewable width height size = (unfit width || unfit height) || (eqb size 0 || ltb 3 size)

-- 12: "image outside memory": so many bytes from an address on are not all in the memory of `len` bytes that starts at address `start`
abbrev pub image_outside : ℕ → ℕ → ℕ → ℕ → Bool
image_outside start len address bytes = ltb address start || ltb (start + len) (address + bytes)

-- a framebuffer: its address, its width and height in pixels, and its size number
pub record Framebuffer : Type 0 where
  pub address : ℕ
  pub width : ℕ
  pub height : ℕ
  pub size : ℕ

abbrev pub framebuffer_at : ℕ → ℕ → ℕ → ℕ → Framebuffer
framebuffer_at address width height size = record { address = address; width = width; height = height; size = size }

abbrev pub pixel_count : Framebuffer → ℕ
pixel_count i = i.width * i.height

-- the refusals in their order: 27, 12, then "14, place the bytes needed"; `out` is the length of the output
unfoldable pub view_grounds : ℕ → ℕ → Framebuffer → ℕ → List (Ground Answer)
view_grounds start len i out =
    ground (answer 27 0) (unviewable i.width i.height i.size)
    ∷ ground (answer 12 0) (image_outside start len i.address (pixel_count i * pixel_bytes i.size))
    ∷ ground (answer 14 (4 * pixel_count i)) (ltb out (4 * pixel_count i))
    ∷ []

-- "Success gives 0 and the bytes written."
abbrev pub view_answer : ℕ → ℕ → Framebuffer → ℕ → Answer
view_answer start len i out = first_of (view_grounds start len i out) (answer 0 (4 * pixel_count i))

-- the output: the image's pixels, and what it held beyond them; at a refusal it is as it was
unfoldable pub view_out : List ℕ → ℕ → Framebuffer → List ℕ → List ℕ
view_out memory start i out =
    cond (eqb (view_answer start (length memory) i (length out)).number 0)
    (overwrite (pixels i.size (pixel_count i) (drop (i.address - start) memory)) out) out
