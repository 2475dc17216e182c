-- Document 01, "Examples": A to O as one list of cases, each with all that must come out; and those of #104, #106, #107 and #109.
use Rattle.std.specs.Prelude.{ℕ, ◌+◌, ◌*◌, Bool, true, ◌&&◌, List, [], ◌∷◌, ◌++◌, eqb, length, replicate}
use Rattle.rdp_words.specs.Words.{bytes_of_words, same_bytes}
use Rattle.rdp_check.specs.Commands.{commands_of}
use Rattle.rdp_check.specs.Check.{check_of}
use Rattle.rdp_repair.specs.Repair.{repair_of, out_after, work_after}
use Rattle.rdp_repair.specs.Best.{repaired_bytes, least_cycles}
use Rattle.rdp_repair.specs.Afresh.{without}
use Rattle.rdp_draw.specs.Draw.{draw_answer, drawn, memories}

-- ---- the paper's words

-- S: FILL, 16 bits, width 8, address 0, scissor 8 by 4
abbrev pub setup : List ℕ
setup = 0x2F30000000000000 ∷ 0x3F10000700000000 ∷ 0x2D00000000020010 ∷ []

-- the same with width 7
abbrev pub setup_of_width7 : List ℕ
setup_of_width7 = 0x2F30000000000000 ∷ 0x3F10000600000000 ∷ 0x2D00000000020010 ∷ []

-- R: pixels (1,1) to (2,2)
abbrev pub rectangle : ℕ
rectangle = 0x3600800800004004

-- pixel (0,1)
abbrev pub one_pixel : ℕ
one_pixel = 0x3600000400000004

-- N
abbrev pub no_operation : ℕ
no_operation = 0x0000000000000000

-- C
abbrev pub fill_color : ℕ
fill_color = 0x37000000F801003F

-- L
abbrev pub load_tile : ℕ
load_tile = 0x3400000000000000

abbrev pub load_block : ℕ
load_block = 0x3300000000000000

abbrev pub set_tile : ℕ
set_tile = 0x3500000000000000

-- 0x31, which no command has
abbrev pub unassigned : ℕ
unassigned = 0x3100000000000000

abbrev pub texture_rectangle : ℕ
texture_rectangle = 0x2400000000000000

abbrev pub longest_triangle : ℕ
longest_triangle = 0x0F00000000000000

abbrev pub sync_load_word : ℕ
sync_load_word = 0x2600000000000000

abbrev pub sync_pipe_word : ℕ
sync_pipe_word = 0x2700000000000000

-- with other bits
abbrev pub sync_pipe_with_bits : ℕ
sync_pipe_with_bits = 0xE700000000000001

abbrev pub sync_tile_word : ℕ
sync_tile_word = 0x2800000000000000

abbrev pub sync_full_word : ℕ
sync_full_word = 0x2900000000000000

-- ---- the cases

pub data Case : Type 0 where
  -- the check of a list of bytes gives number, place, hazards and cause
  checks : List ℕ → ℕ → ℕ → ℕ → ℕ → Case
  -- the repair of a list of words writes a list of words, and inserts so many cycles
  repairs : List ℕ → List ℕ → ℕ → Case
  -- the second repair (#109) of a list of words writes a list of words, which waits so many cycles
  renews : List ℕ → List ℕ → ℕ → Case
  -- drawing a list of words into memory, which starts at address 0, with texture memory of zeros, gives number and place, and leaves memory so
  draws : List ℕ → List ℕ → ℕ → ℕ → List ℕ → Case

-- the lower and the upper half of the fill colour
abbrev pub halves : List ℕ
halves = 0x00 ∷ 0x3F ∷ 0xF8 ∷ 0x01 ∷ []

abbrev pub zeros : ℕ → List ℕ
zeros n = replicate n 0

-- H has the paper's two cases. In I bytes 18-21 and 34-37 become 00 3F F8 01
unfoldable pub examples : List Case
examples =
    -- A, B, C1
    checks [] 0 0 0 0
    ∷ checks (zeros 7) 2 0 0 0
    ∷ checks (bytes_of_words (texture_rectangle ∷ [])) 3 0 0 1
    -- D, E: 0x0F with 21 words, and with 22
    ∷ checks (bytes_of_words (longest_triangle ∷ []) ++ zeros 160) 3 0 0 21
    ∷ checks (bytes_of_words (longest_triangle ∷ []) ++ zeros 168) 5 0 0 22
    -- F
    ∷ checks (bytes_of_words (sync_full_word ∷ no_operation ∷ [])) 4 1 0 2
    -- G: after a draw the hazards are pipe and draw, 1 + 4; it is the cause
    ∷ checks (bytes_of_words (setup ++ rectangle ∷ fill_color ∷ [])) 9 4 5 3
    -- H: a Sync Tile leaves pipe, and the draw is the cause
    ∷ checks (bytes_of_words (setup ++ rectangle ∷ sync_tile_word ∷ fill_color ∷ [])) 9 5 1 3
    ∷ checks (bytes_of_words (setup ++ rectangle ∷ sync_pipe_word ∷ fill_color ∷ [])) 0 6 0 6
    -- I
    ∷ draws (setup ++ fill_color ∷ rectangle ∷ []) (zeros 64) 0 5 (zeros 18 ++ halves ++ zeros 12 ++ halves ++ zeros 26)
    -- J: one Pipe before L, and not Load and Pipe. K: Load before L and before the second R. M: Pipe before C, not before N
    ∷ repairs (setup ++ rectangle ∷ load_tile ∷ fill_color ∷ []) (setup ++ rectangle ∷ sync_pipe_word ∷ load_tile ∷ fill_color ∷ []) 50
    ∷ repairs (setup ++ rectangle ∷ load_tile ∷ rectangle ∷ []) (setup ++ rectangle ∷ sync_load_word ∷ load_tile ∷ sync_load_word ∷ rectangle ∷ []) 50
    ∷ repairs (setup ++ rectangle ∷ no_operation ∷ fill_color ∷ []) (setup ++ rectangle ∷ no_operation ∷ sync_pipe_word ∷ fill_color ∷ []) 50
    -- K repaired is not drawn (#106): no texture image is set for the load
    ∷ draws (setup ++ rectangle ∷ sync_load_word ∷ load_tile ∷ sync_load_word ∷ rectangle ∷ []) (zeros 64) 17 5 (zeros 64)
    -- O: with width 7 pixel (0,1) is at address 14 and takes the lower half
    ∷ draws (setup_of_width7 ++ fill_color ∷ one_pixel ∷ []) (zeros 64) 0 5 (zeros 14 ++ 0x00 ∷ 0x3F ∷ zeros 48)
    -- #104: after a load the hazards are tile and load, 2 + 8, and it is the cause; a Sync Load leaves tile, a Sync Tile none
    ∷ checks (bytes_of_words (load_block ∷ set_tile ∷ [])) 8 1 10 0
    ∷ checks (bytes_of_words (load_block ∷ sync_load_word ∷ set_tile ∷ [])) 8 2 2 0
    ∷ checks (bytes_of_words (load_block ∷ sync_tile_word ∷ set_tile ∷ [])) 0 3 0 3
    ∷ repairs (load_block ∷ set_tile ∷ []) (load_block ∷ sync_tile_word ∷ set_tile ∷ []) 33
    -- #107: an unassigned number first, after Sync Full (4), before a command that is cut, in a list that is no whole words (2), before a draw that lacks its
    -- setup, and after one that does (5); 0x00 with any other bits is accepted
    ∷ checks (bytes_of_words (unassigned ∷ [])) 19 0 0 1
    ∷ checks (bytes_of_words (sync_full_word ∷ unassigned ∷ [])) 4 1 0 2
    ∷ checks (bytes_of_words (unassigned ∷ texture_rectangle ∷ [])) 19 0 0 2
    ∷ checks (bytes_of_words (unassigned ∷ []) ++ zeros 4) 2 1 0 1
    ∷ checks (bytes_of_words (unassigned ∷ rectangle ∷ [])) 19 0 0 2
    ∷ checks (bytes_of_words (rectangle ∷ unassigned ∷ [])) 5 0 0 2
    ∷ checks (bytes_of_words (0x40FFFFFFFFFFFFFF ∷ [])) 0 1 0 1
    -- #109: of many Pipes one is left, as late as it serves, whatever their other bits; a shorter sync serves; a longer one is needed, and all waiting counts;
    -- nothing but syncs; Sync Full stays
    ∷ renews (sync_pipe_word ∷ setup ++ rectangle ∷ sync_pipe_with_bits ∷ fill_color ∷ sync_pipe_word ∷ []) (setup ++ rectangle ∷ sync_pipe_word ∷ fill_color ∷ []) 50
    ∷ renews (setup ++ rectangle ∷ sync_pipe_word ∷ load_tile ∷ []) (setup ++ rectangle ∷ sync_load_word ∷ load_tile ∷ []) 25
    ∷ renews (setup ++ rectangle ∷ sync_load_word ∷ fill_color ∷ []) (setup ++ rectangle ∷ sync_pipe_word ∷ fill_color ∷ []) 50
    ∷ renews (sync_load_word ∷ sync_tile_word ∷ sync_pipe_with_bits ∷ []) [] 0
    ∷ renews (sync_pipe_word ∷ sync_full_word ∷ []) (sync_full_word ∷ []) 0
    ∷ []

-- ---- what is right

-- bytes of a buffer that are to stay
abbrev pub left : List ℕ
left = replicate 8 0xFF

abbrev pub checks_right : List ℕ → ℕ → ℕ → ℕ → ℕ → Bool
checks_right list number place hazards cause =
    let r = check_of list in
    (eqb r.number number && eqb r.place place) && (eqb r.hazards hazards && eqb r.cause cause)

-- a repair is computed by the plan that it finds, which its contract determines (`repair-computes`, `afresh-computes` of rdp_repair): that of the list as
-- given, or of what remains of it. The work buffer and the output have a word more than is needed, which stays
abbrev pub repairs_right : (List ℕ → List ℕ) → List ℕ → List ℕ → ℕ → Bool
repairs_right remains given repaired cycles =
    let list : List ℕ = bytes_of_words given in
    let written : List ℕ = bytes_of_words repaired in
    let cleared : ℕ = 16 * length (commands_of list) in
    let work : List ℕ = replicate (cleared + 8) 0xFF in
    let out : List ℕ = replicate (length written + 8) 0xFF in
    let least : List ℕ = repaired_bytes (remains list) in
    let r = repair_of list (length least) (least_cycles (remains list)) (length work) (length out) in
    ((eqb r.number 0 && eqb r.place (length repaired)) && eqb r.cycles cycles) &&
    (same_bytes (out_after r least out) (written ++ left) && same_bytes (work_after r list work) (zeros cleared ++ left))

abbrev pub draws_right : List ℕ → List ℕ → ℕ → ℕ → List ℕ → Bool
draws_right words memory number place after =
    let list : List ℕ = bytes_of_words words in
    let texture : List ℕ = zeros 4096 in
    let r = draw_answer list 0 (length memory) (length texture) in
    (eqb r.number number && eqb r.place place) && same_bytes (drawn list 0 (memories memory texture)).memory after

abbrev pub right : Case → Bool
right (checks list number place hazards cause) = checks_right list number place hazards cause
right (repairs given repaired cycles) = repairs_right (λ list. list) given repaired cycles
right (renews given renewed cycles) = repairs_right without given renewed cycles
right (draws words memory number place after) = draws_right words memory number place after

abbrev pub all_right : List Case → Bool
all_right [] = true
all_right (e ∷ es) = right e && all_right es
