-- Document 01, refusals 15 and 14: the words of a command, written at the front of the output.
use Rattle.std.specs.Prelude.{Bool, true, cond, ◌&&◌, List, [], ◌++◌, map, ℕ, zero, suc, ◌+◌, ◌*◌, ◌/◌, ◌^◌, min, eqb, leb, length}
use Rattle.rdp_words.specs.Words.{bytes_of, overwrite}
use Rattle.rdp_words.specs.Kinds.{words_of, is_no_operation, is_unassigned}
use Rattle.rdp_command.specs.Layout.{layout}
use Rattle.rdp_encode.specs.Placed.{number_of_value, all_fit, at_lines}
use Rattle.rdp_command.specs.Commands.{values_of, number_of}
use Rattle.rdp_words.specs.Lengths.{suffix_words}
use Rattle.rdp_words.specs.Grounds.{Answer}
use Rattle.rdp_command.specs.declared.Command.{Command}
use Rattle.rdp_command.specs.declared.Command.TheVariants.{NoOperation, FillTriangle, TextureRectangle, TextureRectangleFlip, SyncLoad, SyncPipe, SyncTile, SyncFull, SetKeyGb, SetKeyR, SetConvert, SetScissor, SetPrimitiveDepth, SetOtherModes, LoadTlut, SetTileSize, LoadBlock, LoadTile, SetTile, FillRectangle, SetFillColor, SetFogColor, SetBlendColor, SetPrimitiveColor, SetEnvironmentColor, SetCombineMode, SetTextureImage, SetDepthImage, SetColorImage, Unassigned}

-- the bits of a number that no bit line holds: all of it, but for a triangle's three flags
abbrev pub fixed_bits : ℕ → ℕ
fixed_bits n = cond (eqb (n / 8) 1) 8 n

-- word i of the command with number n whose fields have the numbers ns
abbrev pub packed_word : ℕ → List ℕ → ℕ → ℕ
packed_word n ns i = cond (eqb i 0) (fixed_bits n * 2 ^ 56) 0 + at_lines i (layout n) ns

-- the bytes of its first k words
unfoldable pub packed_bytes : ℕ → List ℕ → ℕ → List ℕ
packed_bytes n ns zero = []
packed_bytes n ns (suc k) = packed_bytes n ns k ++ bytes_of (packed_word n ns k)

-- the words of a command before its suffix
abbrev pub base_words : ℕ → ℕ
base_words n = min 4 (words_of n)

abbrev pub numbers_of : Command → List ℕ
numbers_of c = map number_of_value (values_of c)

-- the bytes of a command: its base words, and the suffix as given
unfoldable pub bytes_with : ℕ → List ℕ → List ℕ → List ℕ
bytes_with n ns suffix = packed_bytes n ns (base_words n) ++ suffix

abbrev pub encoded_bytes : Command → List ℕ → List ℕ
encoded_bytes c suffix = bytes_with (number_of c) (numbers_of c) suffix

-- refusal 15 for a no operation or an unassigned command whose number is not in its row: each name is judged by its own numbers (#107)
abbrev pub number_in_row : Command → Bool
number_in_row (NoOperation n) = is_no_operation n
number_in_row (FillTriangle g) = true
number_in_row (TextureRectangle g) = true
number_in_row (TextureRectangleFlip g) = true
number_in_row SyncLoad = true
number_in_row SyncPipe = true
number_in_row SyncTile = true
number_in_row SyncFull = true
number_in_row (SetKeyGb g) = true
number_in_row (SetKeyR g) = true
number_in_row (SetConvert g) = true
number_in_row (SetScissor g) = true
number_in_row (SetPrimitiveDepth g) = true
number_in_row (SetOtherModes g) = true
number_in_row (LoadTlut g) = true
number_in_row (SetTileSize g) = true
number_in_row (LoadBlock g) = true
number_in_row (LoadTile g) = true
number_in_row (SetTile g) = true
number_in_row (FillRectangle g) = true
number_in_row (SetFillColor g) = true
number_in_row (SetFogColor g) = true
number_in_row (SetBlendColor g) = true
number_in_row (SetPrimitiveColor g) = true
number_in_row (SetEnvironmentColor g) = true
number_in_row (SetCombineMode g) = true
number_in_row (SetTextureImage g) = true
number_in_row (SetDepthImage g) = true
number_in_row (SetColorImage g) = true
number_in_row (Unassigned n) = is_unassigned n

-- none of the parts of refusal 15 holds
unfoldable pub encodable : Command → List ℕ → Bool
encodable c suffix =
    (number_in_row c && all_fit (layout (number_of c)) (values_of c)) && eqb (length suffix) (8 * suffix_words (words_of (number_of c)))

-- 15 at 0 where what is given can't be encoded, else 14 at the words needed where there is no room, else 0 at the words
abbrev pub verdict_of : Bool → Bool → ℕ → Answer
verdict_of ok room words =
    cond ok (cond room (record { number = 0; place = words }) (record { number = 14; place = words })) (record { number = 15; place = 0 })

-- room for the words of a command
abbrev pub has_room : ℕ → List ℕ → Bool
has_room n out = leb (words_of n) (length out / 8)

unfoldable pub answer_with : Bool → ℕ → List ℕ → Answer
answer_with ok n out = verdict_of ok (has_room n out) (words_of n)

-- the output: the bytes at its front, or as it was at a refusal
unfoldable pub out_with : Bool → ℕ → List ℕ → List ℕ → List ℕ
out_with ok n bytes out = cond (ok && has_room n out) (overwrite bytes out) out

-- what encoding a command answers, and the output after it
abbrev pub encode_answer : Command → List ℕ → List ℕ → Answer
encode_answer c suffix out = answer_with (encodable c suffix) (number_of c) out

abbrev pub encode_out : Command → List ℕ → List ℕ → List ℕ
encode_out c suffix out = out_with (encodable c suffix) (number_of c) (encoded_bytes c suffix) out
