-- A command's number with the numbers of its fields. Assumes nothing.
use Rattle.std.proofs.Common.{◌≡◌, ℕ, ◌*◌, Bool, true, false, cond, ◌&&◌, eqb, List, length, Some, None, sym, ap, subst, ◌∙◌, eq-eqb}
use Rattle.rdp_encode.specs.Encode.{numbers_of, number_in_row, encodable}
use Rattle.rdp_words.specs.Kinds.{words_of}
use Rattle.rdp_command.specs.Layout.{layout}
use Rattle.rdp_command.specs.Fields.{Value}
use Rattle.rdp_encode.specs.Placed.{all_fit}
use Rattle.rdp_command.specs.Commands.{number_of}
use Rattle.rdp_words.specs.Lengths.{suffix_words}
use Rattle.rdp_encode.specs.Numbers.{numbers_fit}
use Rattle.rdp_encode.specs.Steps.{Spread, encodable_by}
use Rattle.rdp_encode.specs.declared.numbers.Numbered.{Numbered}
use Rattle.rdp_command.specs.declared.Command.{Command}

-- what is shown of a command's case holds of a command that equals it
pub spread-as : {c d : Command} {r : Numbered} → c ≡ d → Spread d r → Spread c r
spread-as {r = r} e s = subst (λ (c : Command). Spread c r) (sym e) s

module _ (c : Command) (r : Numbered) (s : Spread c r) where
  -- the number stands where it is one that the command can have
  pub given : {n : ℕ} → r.number ≡ Some n → (number_in_row c ≡ true) × (n ≡ number_of c)
  given {n} e = by (number_in_row c) (sym e ∙ s.number)
    where
      by : (b : Bool) → Some n ≡ cond b (Some (number_of c)) None → (b ≡ true) × (n ≡ number_of c)
      by true f = (cc, cc)
      by false f = absurd cc

  pub missing : r.number ≡ None → number_in_row c ≡ false
  missing e = by (number_in_row c) (sym e ∙ s.number)
    where
      by : (b : Bool) → None ≡ cond b (Some (number_of c)) None → b ≡ false
      by true f = absurd cc
      by false f = cc

  -- refusal 15 by the numbers
  pub encodable-by : (suffix : List ℕ) → number_in_row c ≡ true → encodable c suffix ≡ encodable_by (number_of c) (numbers_of c) suffix
  unfolding encodable numbers_fit
  encodable-by suffix e =
      rw (e, eq-eqb (length (numbers_of c)) (length (layout (number_of c))) (sym (s.sized e)))
      (ap (λ (vs : List Value). all_fit (layout (number_of c)) vs && eqb (length suffix) (8 * suffix_words (words_of (number_of c)))) (sym s.kept))

pub not-encodable : (c : Command) (suffix : List ℕ) → number_in_row c ≡ false → encodable c suffix ≡ false
unfolding encodable
not-encodable c suffix e = rw e
