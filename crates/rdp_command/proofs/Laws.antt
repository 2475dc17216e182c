-- The laws of decoding that the layers above rest on, over what is answered. Assumes nothing.
use Prim.Native.Nat.{ℕ, ◌*◌, ◌/◌, ◌≤◌, ◌<◌}
use mathlib.Core.List.{List, ◌++◌}
use mathlib.Core.Path.{◌≡◌, ap, sym, ◌∙◌}
use native.Mathlib.Omega.{arith}
use borrow.Author.Tests.{leb-true, leb-false, ne_eqb}
use lib.Dec.{leb}
use lib.ListN.{length, take, drop, take-append-drop}
use lib.Seq.{take_all, length-take-le}
use Rattle.rdp_words.specs.Words.{word_at, number_in}
use Rattle.rdp_words.specs.Kinds.{words_of}
use Rattle.rdp_command.specs.Commands.{number_of}
use Rattle.rdp_words.specs.Lengths.{first_number, command_words, whole_words, suffix_of}
use Rattle.rdp_command.specs.Decode.{own_words, command_in, decode_of, answer}
use Rattle.rdp_command.specs.declared.Command.{Command}
use Rattle.rdp_command.specs.Decode.{Whole, Refused}
use Rattle.rdp_words.proofs.Tests.{by-test}
use Rattle.rdp_words.proofs.KindLaws.{words-pos}
use Rattle.rdp_words.proofs.WordLaws.{word-front}
use Rattle.rdp_words.proofs.PlaceLaws.{number_small, command-words, words-there, words-cut}
use Rattle.rdp_command.proofs.AnswerLaws.{decoded-there, decoded-is}
use Rattle.rdp_command.proofs.WholeLaws.{number-whole, decode-whole-later, suffix-whole-later}

-- ---- what was decoded

module _ (bs : List ℕ) {c : Command} (d : decode_of bs ≡ Whole c) where
  -- every command number of the 64 decodes to a command of that number
  pub number-decoded : number_of c ≡ first_number bs
  number-decoded = ap number_of (decoded-is bs d) ∙ number-whole bs (decoded-there bs d)

  -- bytes after the list change neither the command nor its suffix
  pub decode-later : (more : List ℕ) → decode_of (bs ++ more) ≡ Whole c
  decode-later more = decode-whole-later bs (decoded-there bs d) more ∙ d

  pub suffix-later : (more : List ℕ) → suffix_of (bs ++ more) ≡ suffix_of bs
  suffix-later more = suffix-whole-later bs (decoded-there bs d) more

-- ---- #102: decoding takes exactly the words that the first word says

module _ (bs : List ℕ) where
  -- the words of the first command
  abbrev due : ℕ
  due = command_words (word_at bs 0)

  abbrev own : List ℕ
  own = take (8 * due) bs

  due-is : due ≡ words_of (first_number bs)
  due-is = sym (command-words (word_at bs 0))

  -- where they are not all there, 3 at 0
  pub decode-cut : length bs / 8 < due → decode_of bs ≡ Refused (answer 3 0)
  unfolding decode_of
  decode-cut short = rw (words-cut bs (omega (arith, due-is)))

  module _ (all : due ≤ length bs / 8) where
    there : whole_words bs ≡ 0 → ⊥
    there z = omega (arith, words-there bs (omega (arith, due-is)), words-pos (first_number bs) (number_small (word_at bs 0)))

    -- where they are, a command
    pub decode-there : (c : Command) × (decode_of bs ≡ Whole c)
    unfolding decode_of
    decode-there = (command_in (first_number bs) (own_words bs (whole_words bs)), rw (ne_eqb (whole_words bs) 0 there))

    own-long : length own ≡ 8 * due
    own-long = length-take-le (8 * due) bs (omega arith)

    own-number : first_number own ≡ first_number bs
    own-number =
        ap number_in (sym (word-front own (drop (8 * due) bs) 0 (omega (arith, own-long, due-is, words-pos (first_number bs) (number_small (word_at bs 0)))))) ∙
        ap first_number (take-append-drop (8 * due) bs)

    own-there : whole_words own ≡ 0 → ⊥
    own-there z =
        omega (arith, words-there own (rw own-number (omega (arith, own-long, due-is))), ap words_of own-number, words-pos (first_number bs) (number_small (word_at bs 0)))

    decode-whole-own : decode_of bs ≡ decode_of own
    decode-whole-own = ap decode_of (sym (take-append-drop (8 * due) bs)) ∙ decode-whole-later own own-there (drop (8 * due) bs)

  -- no byte beyond them counts
  pub decode-own : decode_of bs ≡ decode_of own
  decode-own =
      by-test (leb due (length bs / 8)) (λ t. decode-whole-own (leb-true _ _ t))
      (λ f. let short : length bs / 8 < due = leb-false _ _ f in ap decode_of (sym (take_all (8 * due) bs (omega arith))))
