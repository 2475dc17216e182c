-- The laws of encoding that the layers above rest on, over what is answered. Assumes nothing.
use Rattle.std.proofs.Common.{ℕ, ◌/◌, ◌≤◌, List, ◌++◌, ◌≡◌, ap, sym, subst, ◌∙◌, leb-true, length}
use Rattle.rdp_words.specs.Words.{overwrite}
use Rattle.rdp_words.specs.Kinds.{words_of}
use Rattle.rdp_command.specs.Commands.{number_of}
use Rattle.rdp_words.specs.Lengths.{first_number, suffix_of}
use Rattle.rdp_command.specs.Decode.{decode_of, answer}
use Rattle.rdp_encode.specs.Encode.{base_words, encode_answer, encode_out}
use Rattle.rdp_encode.specs.Kept.{bytes_kept}
use Rattle.rdp_command.specs.declared.Command.{Command}
use Rattle.rdp_command.specs.Decode.{Whole}
use Rattle.rdp_command.proofs.AnswerLaws.{decoded-there, decoded-is}
use Rattle.rdp_encode.proofs.WholeLaws.{decodes, suffix-back, accepted, output, answer-whole, output-whole}
use Rattle.rdp_command.proofs.Laws.{number-decoded}

-- ---- decoding what was encoded

module _ (c : Command) (suffix out : List ℕ) (z : (encode_answer c suffix out).number ≡ 0) where
  room : words_of (number_of c) ≤ length out / 8
  room = leb-true (words_of (number_of c)) (length out / 8) (accepted c suffix out z).1

  -- decoding what `encode` wrote gives the command back
  pub decode-encoded : decode_of (encode_out c suffix out) ≡ Whole c
  decode-encoded =
      let e = accepted c suffix out z in
      ap decode_of (output c suffix out e.0 e.1) ∙ decodes c suffix out e.0 room

  -- and `suffix` gives the suffix back
  pub suffix-encoded : suffix_of (encode_out c suffix out) ≡ suffix
  suffix-encoded =
      let e = accepted c suffix out z in
      ap suffix_of (output c suffix out e.0 e.1) ∙ suffix-back c suffix out e.0 room

-- ---- encoding what was decoded

module _ (bs : List ℕ) {c : Command} (d : decode_of bs ≡ Whole c) where
  -- encoding it with its suffix, where there is room, answers 0 and writes its words with unused bits zero
  module _ (out : List ℕ) (room : words_of (number_of c) ≤ length out / 8) where
    room-first : words_of (first_number bs) ≤ length out / 8
    room-first = subst (λ (k : ℕ). words_of k ≤ length out / 8) (number-decoded bs d) room

    pub encode-decoded-answer : encode_answer c (suffix_of bs) out ≡ answer 0 (words_of (number_of c))
    encode-decoded-answer =
        ap (λ (x : Command). encode_answer x (suffix_of bs) out) (decoded-is bs d) ∙
        answer-whole bs (decoded-there bs d) out room-first ∙
        ap (λ (k : ℕ). answer 0 (words_of k)) (sym (number-decoded bs d))

    pub encode-decoded :
        encode_out c (suffix_of bs) out ≡ overwrite (bytes_kept (number_of c) bs (base_words (number_of c)) ++ suffix_of bs) out
    encode-decoded =
        ap (λ (x : Command). encode_out x (suffix_of bs) out) (decoded-is bs d) ∙
        output-whole bs (decoded-there bs d) out room-first ∙
        ap (λ (k : ℕ). overwrite (bytes_kept k bs (base_words k) ++ suffix_of bs) out) (sym (number-decoded bs d))
