-- What encoding answers, by the tests that it makes. Assumes nothing.
use Rattle.std.proofs.Common.{◌≡◌, ℕ, ◌*◌, ◌≤◌, ◌<◌, Bool, true, false, ◌&&◌, List, map, length, eqb, ltb, ap, ◌∙◌, lt-ltb, le-ltb, eqb-true}
use Rattle.rdp_words.specs.Kinds.{words_of}
use Rattle.rdp_words.specs.Lengths.{suffix_words}
use Rattle.rdp_command.specs.Layout.{Line, layout}
use Rattle.rdp_encode.specs.Table.{line_of}
use Rattle.rdp_encode.specs.declared.table.BitLine.{BitLine}
use Rattle.rdp_encode.specs.Placed.{all_fit}
use Rattle.rdp_command.specs.Commands.{command_of}
use Rattle.rdp_encode.specs.Encode.{answer_with, out_with, bytes_with}
use Rattle.rdp_encode.specs.Steps.{answer_by, out_by}
use Rattle.rdp_encode.specs.Numbers.{values_from, each_fits, numbers_fit, flags_agree, from_numbers}
use Rattle.rdp_command.specs.declared.Command.{Command}
use Rattle.rdp_command.specs.Decode.{Whole, Refused}
use Rattle.rdp_words.proofs.Tests.{and-true}
use Rattle.rdp_command.proofs.AnswerLaws.{accepted-of}
use Rattle.rdp_command.specs.Decode.{answer}

-- ---- encoding

pub unfit : {ok : Bool} → ok ≡ false → (n : ℕ) (bytes out : List ℕ) → (answer 15 0 ≡ answer_with ok n out) × (out ≡ out_with ok n bytes out)
unfolding answer_with out_with
unfit e n bytes out = (rw e, rw e)

-- by a command's number and the numbers of its fields
module _ (n : ℕ) (ns suffix out : List ℕ) where
  pub unfit-by : numbers_fit n ns ≡ false → (answer 15 0 ≡ answer_by n ns suffix out) × (out ≡ out_by n ns suffix out)
  unfit-by e = unfit (ap (λ (b : Bool). b && eqb (length suffix) (8 * suffix_words (words_of n))) e) n (bytes_with n ns suffix) out

-- ---- a number and the numbers of fields

pub fit_parts : (n : ℕ) (ns : List ℕ) → numbers_fit n ns ≡ true → (length ns ≡ length (layout n)) × (all_fit (layout n) (values_from (layout n) ns) ≡ true)
unfolding numbers_fit
fit_parts n ns e =
    let r = and-true (eqb (length ns) (length (layout n))) (all_fit (layout n) (values_from (layout n) ns)) e in
    (eqb-true _ _ r.0, r.1)

-- by the lines that the code holds
pub fits-as :
    (n : ℕ) (ns : List ℕ) (ls : List BitLine) {b : Bool} → map line_of ls ≡ layout n →
    b ≡ eqb (length ns) (length (map line_of ls)) && each_fits (map line_of ls) ns → b ≡ numbers_fit n ns
unfolding numbers_fit
fits-as n ns ls e f = f ∙ ap (λ (x : List Line). eqb (length ns) (length x) && each_fits x ns) e

module _ (n : ℕ) (ns : List ℕ) where
  pub accepted : n < 64 → numbers_fit n ns && flags_agree n ns ≡ true → {r : Command} → r ≡ command_of n (values_from (layout n) ns) → Whole r ≡ from_numbers n ns
  unfolding from_numbers
  accepted h f e = rw (lt-ltb _ _ h, f) (ap Whole e)

  pub too_large : 64 ≤ n → Refused (answer 15 0) ≡ from_numbers n ns
  unfolding from_numbers
  too_large h = rw (le-ltb _ _ h)

  pub misfit : n < 64 → numbers_fit n ns && flags_agree n ns ≡ false → Refused (answer 15 0) ≡ from_numbers n ns
  unfolding from_numbers
  misfit h f = rw (lt-ltb _ _ h, f)

  -- a command that was made has a number below 64 and numbers that fit
  module _ {c : Command} (d : from_numbers n ns ≡ Whole c) where
    pub made-tests : (ltb n 64 ≡ true) × (numbers_fit n ns && flags_agree n ns ≡ true)
    unfolding from_numbers
    made-tests =
        and-true (ltb n 64) (numbers_fit n ns && flags_agree n ns)
        (accepted-of (ltb n 64 && (numbers_fit n ns && flags_agree n ns)) (command_of n (values_from (layout n) ns)) (answer 15 0) d).0

    pub made-is : c ≡ command_of n (values_from (layout n) ns)
    unfolding from_numbers
    made-is = (accepted-of (ltb n 64 && (numbers_fit n ns && flags_agree n ns)) (command_of n (values_from (layout n) ns)) (answer 15 0) d).1
