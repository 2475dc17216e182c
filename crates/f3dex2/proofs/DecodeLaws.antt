-- The bytes that are written. Promises: `translated-decodes`, they decode, command after command, to the commands that the display list commands read
-- become; `beyond-left`, no byte beyond them changes; `refusal-leaves`, a refusal leaves the output. Assumes nothing.
use Rattle.std.proofs.Common.{ℕ, ◌+◌, ◌*◌, ◌^◌, ◌≤◌, ◌<◌, List, [], ◌∷◌, ◌++◌, ◌≡◌, refl, ap, sym, subst, ◌∙◌, arith, eq-eqb, ne_eqb, length, take, drop, length-append}
use Rattle.std.proofs.lemmas.Bool.Decides.{nat_tests}
use Rattle.rdp_words.specs.Words.{word_at, bytes_of, number_in, overwrite, bytes_of_words}
use Rattle.rdp_words.specs.Kinds.{words_of}
use Rattle.rdp_words.specs.Lengths.{first_number}
use Rattle.rdp_words.proofs.PlaceLaws.{command-words}
use Rattle.rdp_words.proofs.WordLaws.{word_back, word-whole}
use Rattle.rdp_words.proofs.OverwriteLaws.{take-overwrite, drop-overwrite}
use Rattle.rdp_command.specs.Commands as rdp
use Rattle.rdp_command.proofs.Laws.{decode-there, number-decoded}
use Rattle.f3dex2.specs.Walk.{Walked}
use Rattle.f3dex2.specs.Translate.{walked, translated_of, out_of, translate_answer, translate_out}
use Rattle.f3dex2.specs.Written.{numbers_for, AreCommands, none, one, two, Decodes, done, next}
use Rattle.f3dex2.proofs.WrittenLaws.{words-commands}

-- ---- words that are commands decode

length-joined : (ws : List ℕ) → length (bytes_of_words ws) ≡ 8 * length ws
length-joined [] = refl
length-joined (w ∷ ws) = length-append (bytes_of w) (bytes_of_words ws) ∙ omega (arith, length-joined ws)

-- the first command of bytes that begin with a word, of which there are as many words as its number says
module _ (w : ℕ) (more ns : List ℕ) (n : ℕ) (small : w < 2 ^ 62) (is : words_of (number_in w) ≡ n) (room : 8 * n ≤ length (bytes_of w ++ more)) where
  abbrev bs : List ℕ
  bs = bytes_of w ++ more

  long : length bs ≡ 8 + length more
  long = length-append (bytes_of w) more

  first : word_at bs 0 ≡ w
  first = word-whole bs 0 (omega (arith, long)) ∙ word_back w more (omega arith)

  number-first : first_number bs ≡ number_in w
  number-first = ap number_in first

  decode-first : Decodes (drop (8 * n) bs) ns → Decodes bs (number_in w ∷ ns)
  decode-first rest =
      let d = decode-there bs (rw (← command-words (word_at bs 0), first, is) (omega arith)) in
      let e : rdp.number_of d.0 ≡ number_in w = number-decoded bs d.1 ∙ number-first in
      let words : words_of (rdp.number_of d.0) ≡ n = ap words_of e ∙ is in
      subst (λ (k : ℕ). Decodes bs (k ∷ ns)) e (next d.0 d.1 (subst (λ (k : ℕ). Decodes (drop (8 * k) bs) ns) (sym words) rest))

decodes : {ws ns : List ℕ} → AreCommands ws ns → Decodes (bytes_of_words ws) ns
decodes none = done
decodes (one {ws} {ns} w small is rest) = decode-first w (bytes_of_words ws) ns 1 small is (omega (arith, length-append (bytes_of w) (bytes_of_words ws))) (decodes rest)
decodes (two {ws} {ns} w v small is rest) =
    decode-first w (bytes_of v ++ bytes_of_words ws) ns 2 small is
    (omega (arith, length-append (bytes_of w) (bytes_of v ++ bytes_of_words ws), length-append (bytes_of v) (bytes_of_words ws))) (decodes rest)

-- ---- an answer 0

record Accepted (r : Walked) (room : ℕ) : Type 0 where
  number : r.number ≡ 0
  place : (translated_of r room).place ≡ length r.words

accepted-by : (r : Walked) (room : ℕ) → (translated_of r room).number ≡ 0 → Accepted r room
unfolding translated_of
accepted-by r room z = record { number = grind (arith, nat_tests); place = grind (arith, nat_tests) }

module _ (memory : List ℕ) (start : ℕ) (out : List ℕ) where
  abbrev answer : ℕ
  answer = (translate_answer memory start (length out)).number

  -- the bytes of the words written
  abbrev size : ℕ
  size = 8 * (translate_answer memory start (length out)).place

  module _ (z : answer ≡ 0) where
    accepted : Accepted (walked memory start) (length out)
    accepted = accepted-by (walked memory start) (length out) z

    out-is : translate_out memory start out ≡ overwrite (bytes_of_words (walked memory start).words) out
    unfolding out_of
    out-is = rw (eq-eqb _ _ z)

    size_is : length (bytes_of_words (walked memory start).words) ≡ size
    size_is = length-joined (walked memory start).words ∙ ap (λ (k : ℕ). 8 * k) (sym accepted.place)

    pub translated-decodes : Decodes (take size (translate_out memory start out)) (numbers_for (walked memory start).commands)
    translated-decodes =
        subst (λ (bs : List ℕ). Decodes bs (numbers_for (walked memory start).commands))
        (sym (ap (take size) out-is ∙ take-overwrite (bytes_of_words (walked memory start).words) out size size_is))
        (decodes (words-commands memory start accepted.number))

    pub beyond-left : drop size (translate_out memory start out) ≡ drop size out
    beyond-left = ap (drop size) out-is ∙ drop-overwrite (bytes_of_words (walked memory start).words) out size size_is

  pub refusal-leaves : (answer ≡ 0 → ⊥) → translate_out memory start out ≡ out
  unfolding out_of
  refusal-leaves h = rw (ne_eqb _ _ h)
