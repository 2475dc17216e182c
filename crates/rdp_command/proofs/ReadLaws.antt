-- The fields that the check and the drawing read of a command's first word are those that decoding gives. Assumes nothing.
use mathlib.Core.List.{List}
use mathlib.Core.Path.{◌≡◌, refl, sym, ap, ◌∙◌}
use Prim.Native.Nat.{ℕ, ◌/◌}
use borrow.Author.Tests.{eq-eqb}
use Rattle.rdp_words.specs.Words.{word_at}
use Rattle.rdp_words.specs.Kinds.{kind_of, words_of}
use Rattle.rdp_command.specs.Layout.{layout}
use Rattle.rdp_command.specs.Fields.{fields_of}
use Rattle.rdp_command.specs.Groups.{triangle_base_of}
use Rattle.rdp_command.specs.Commands.{command_of, number_of}
use Rattle.rdp_words.specs.Lengths.{first_number, whole_words}
use Rattle.rdp_command.specs.Decode.{own_word, own_words, command_in, decode_of}
use Rattle.rdp_command.specs.Reads.{tile_area_in, block_in, textured_rectangle_in, other_modes_in, scissor_in, rectangle_in, fill_color_in, color_image_in}
use Rattle.rdp_command.specs.declared.Command.{Command}
use Rattle.rdp_command.specs.declared.Command.TheVariants.{FillTriangle, TextureRectangle, TextureRectangleFlip, SetOtherModes, SetScissor, SetColorImage, SetFillColor, FillRectangle, LoadTile, LoadTlut, LoadBlock}
use Rattle.rdp_command.specs.Decode.{Whole}
use Rattle.rdp_command.specs.declared.TriangleBase.{TriangleBase}
use Rattle.rdp_command.specs.declared.TexturedRectangle.{TexturedRectangle}
use Rattle.rdp_words.proofs.PlaceLaws.{is_whole}
use Rattle.rdp_command.proofs.CommandLaws.{one_word}
use Rattle.rdp_command.proofs.AnswerLaws.{whole, decoded-there, decoded-is}
use Rattle.rdp_command.proofs.Laws.{number-decoded}

-- a list that holds its first command is decoded to a command of the number in the first word
module _ (bs : List ℕ) (there : whole_words bs ≡ 0 → ⊥) where
  abbrev pub decoded : Command
  decoded = command_in (first_number bs) (own_words bs (whole_words bs))

  pub decodes : decode_of bs ≡ Whole decoded
  decodes = sym (whole bs there refl)

  pub decoded-number : number_of decoded ≡ first_number bs
  decoded-number = number-decoded bs decodes

-- what is read of the first word of a command that was decoded
module _ (bs : List ℕ) {c : Command} (d : decode_of bs ≡ Whole c) where
  at-number : (n : ℕ) → first_number bs ≡ n → c ≡ command_in n (own_words bs (whole_words bs))
  at-number n e = decoded-is bs d ∙ ap (λ (k : ℕ). command_in k (own_words bs (whole_words bs))) e

  pub reads-other-modes : first_number bs ≡ 0x2F → c ≡ SetOtherModes (other_modes_in (word_at bs 0))
  reads-other-modes e = at-number 0x2F e ∙ (one_word (own_words bs (whole_words bs))).other-modes

  pub reads-scissor : first_number bs ≡ 0x2D → c ≡ SetScissor (scissor_in (word_at bs 0))
  reads-scissor e = at-number 0x2D e ∙ (one_word (own_words bs (whole_words bs))).scissor

  pub reads-rectangle : first_number bs ≡ 0x36 → c ≡ FillRectangle (rectangle_in (word_at bs 0))
  reads-rectangle e = at-number 0x36 e ∙ (one_word (own_words bs (whole_words bs))).fill-rectangle

  pub reads-fill-color : first_number bs ≡ 0x37 → c ≡ SetFillColor (fill_color_in (word_at bs 0))
  reads-fill-color e = at-number 0x37 e ∙ (one_word (own_words bs (whole_words bs))).fill-color

  pub reads-color-image : first_number bs ≡ 0x3F → c ≡ SetColorImage (color_image_in (word_at bs 0))
  reads-color-image e = at-number 0x3F e ∙ (one_word (own_words bs (whole_words bs))).color-image

  pub reads-triangle : first_number bs / 8 ≡ 1 → (g : TriangleBase) × (c ≡ FillTriangle g)
  unfolding command_of
  reads-triangle e = (triangle_base_of (fields_of (layout (first_number bs)) (own_words bs (whole_words bs))), decoded-is bs d ∙ rw (eq-eqb _ _ e))

  -- the second word of a command of two is there
  second : words_of (first_number bs) ≡ 2 → own_word bs (whole_words bs) 1 ≡ word_at bs 1
  second e =
      let two : whole_words bs ≡ 2 = (is_whole bs (decoded-there bs d)).words ∙ e in
      rw two

  pub reads-texture-rectangle : first_number bs ≡ 0x24 → c ≡ TextureRectangle (textured_rectangle_in (word_at bs 0) (word_at bs 1))
  unfolding command_of layout words_of kind_of
  reads-texture-rectangle e =
      at-number 0x24 e ∙
      ap (λ (v : ℕ). TextureRectangle (textured_rectangle_in (word_at bs 0) v)) (second (ap words_of e))

  pub reads-texture-rectangle-flip : first_number bs ≡ 0x25 → (g : TexturedRectangle) × (c ≡ TextureRectangleFlip g)
  unfolding command_of layout
  reads-texture-rectangle-flip e = (_, at-number 0x25 e)

  pub reads-load-tile : first_number bs ≡ 0x34 → c ≡ LoadTile (tile_area_in (word_at bs 0))
  reads-load-tile e = at-number 0x34 e ∙ (one_word (own_words bs (whole_words bs))).load-tile

  pub reads-load-tlut : first_number bs ≡ 0x30 → c ≡ LoadTlut (tile_area_in (word_at bs 0))
  reads-load-tlut e = at-number 0x30 e ∙ (one_word (own_words bs (whole_words bs))).load-tlut

  pub reads-load-block : first_number bs ≡ 0x33 → c ≡ LoadBlock (block_in (word_at bs 0))
  reads-load-block e = at-number 0x33 e ∙ (one_word (own_words bs (whole_words bs))).load-block
