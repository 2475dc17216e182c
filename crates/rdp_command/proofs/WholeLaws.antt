-- Decoding by the words of the first command: steps to the laws over answers. Assumes nothing.
use Prim.Native.Nat.{ℕ, ◌*◌, ◌/◌, ◌^◌, ◌≤◌, ◌<◌}
use mathlib.Core.Bool.{cond}
use mathlib.Core.List.{List, [], ◌∷◌, ◌++◌}
use mathlib.Core.Path.{◌≡◌, refl, ap, sym, ◌∙◌}
use native.Mathlib.Nat.{mod-lt}
use native.Mathlib.Omega.{arith}
use borrow.Author.Tests.{le-ltb, ltb-true, ltb-false}
use lib.Dec.{ltb, lit<}
use lib.ListN.{length, take, drop, length-append, length-drop}
use lib.Seq.{take-append-le, drop-append-le}
use Rattle.rdp_words.specs.Words.{word_at, number_in}
use Rattle.rdp_words.specs.Kinds.{words_of}
use Rattle.rdp_command.specs.Commands.{number_of}
use Rattle.rdp_words.specs.Lengths.{first_number, whole_words, suffix_words, suffix_start, suffix_of}
use Rattle.rdp_command.specs.Decode.{own_word, own_words, command_in, decode_of}
use Rattle.rdp_command.specs.declared.Command.{Command}
use Rattle.rdp_words.proofs.Tests.{by-test}
use Rattle.rdp_words.proofs.KindLaws.{words-pos}
use Rattle.rdp_command.proofs.AnswerLaws.{whole, nonzero-words}
use Rattle.rdp_words.proofs.WordLaws.{word-front}
use Rattle.rdp_command.proofs.NumberLaws.{number_read}

pub whole_of : (bs : List ℕ) (n : ℕ) → first_number bs ≡ n → words_of n ≤ length bs / 8 → whole_words bs ≡ words_of n
unfolding whole_words
whole_of bs n e h = ap (λ (k : ℕ). cond (ltb (length bs / 8) (words_of k)) 0 (words_of k)) e ∙ rw (le-ltb _ _ h)

module _ (bs : List ℕ) (there : whole_words bs ≡ 0 → ⊥) where
  abbrev number : ℕ
  number = first_number bs

  abbrev words : List ℕ
  words = own_words bs (whole_words bs)

  -- the first command of the list
  abbrev pub command : Command
  command = command_in number words

  pub number_small : number < 64
  number_small = mod-lt (word_at bs 0 / 2 ^ 56) (lit< tt)

  -- every command number of the 64 decodes to a command of that number
  pub number-whole : number_of command ≡ number
  number-whole = number_read number number_small words refl

  pub counted_words : whole_words bs ≡ words_of number
  counted_words = nonzero-words bs there

  pub list-long : words_of number ≤ length bs / 8
  unfolding whole_words
  list-long =
      by-test (ltb (length bs / 8) (words_of number)) (λ t. absurd (there (rw t)))
      (λ f. ltb-false (length bs / 8) (words_of number) f)

  -- bytes after a list that holds its first command change neither the command nor its suffix
  module _ (more : List ℕ) where
    later-word : (k : ℕ) → k < words_of number → word_at (bs ++ more) k ≡ word_at bs k
    later-word k h = word-front bs more k (omega (arith, list-long))

    later-number : first_number (bs ++ more) ≡ number
    later-number = ap number_in (later-word 0 (words-pos number number_small))

    later-count : whole_words (bs ++ more) ≡ whole_words bs
    later-count = whole_of (bs ++ more) number later-number (omega (arith, list-long, length-append bs more)) ∙ sym counted_words

    later-own : (k : ℕ) → own_word (bs ++ more) (whole_words bs) k ≡ own_word bs (whole_words bs) k
    later-own k =
        by-test (ltb k (whole_words bs))
        (λ t. let h : k < whole_words bs = ltb-true k (whole_words bs) t in rw t (later-word k (omega (arith, counted_words))))
        (λ f. rw f)

    later-words : own_words (bs ++ more) (whole_words bs) ≡ words
    later-words = λ i. later-word 0 (words-pos number number_small) i ∷ later-own 1 i ∷ later-own 2 i ∷ later-own 3 i ∷ []

    pub decode-whole-later : decode_of (bs ++ more) ≡ decode_of bs
    decode-whole-later =
        sym (whole (bs ++ more) (λ z. there (sym later-count ∙ z))
        (ap (command_in number) (sym later-words) ∙ (λ i. command_in (sym later-number i) (own_words (bs ++ more) (sym later-count i))))) ∙
        whole bs there refl

    pub suffix-whole-later : suffix_of (bs ++ more) ≡ suffix_of bs
    unfolding suffix_of suffix_start
    suffix-whole-later =
        ap (λ (k : ℕ). take (8 * suffix_words k) (drop (cond (ltb 4 k) 32 0) (bs ++ more))) (later-count ∙ counted_words) ∙
        by-test (ltb 4 (words_of number))
        (λ t.
        let h : 4 < words_of number = ltb-true 4 (words_of number) t in
        let l = list-long in
        rw t
        (ap (take (8 * suffix_words (words_of number))) (drop-append-le 32 bs more (omega arith)) ∙
        take-append-le (8 * suffix_words (words_of number)) (drop 32 bs) more (omega (arith, length-drop 32 bs))))
        (λ f.
        let h : words_of number ≤ 4 = ltb-false 4 (words_of number) f in
        let z : 8 * suffix_words (words_of number) ≡ 0 = omega arith in
        rw (f, z)) ∙
        ap (λ (k : ℕ). take (8 * suffix_words k) (drop (cond (ltb 4 k) 32 0) bs)) (sym counted_words)
