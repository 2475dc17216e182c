-- Which answers decoding gives, and how large their parts are. Assumes nothing.
use Prim.Native.Nat.{ℕ, ◌≤◌, ◌<◌}
use mathlib.Core.List.{List}
use mathlib.Core.Path.{◌≡◌}
use lib.Dec.{eqb, leb, leb→le}
use lib.ListN.{length}
use Rattle.rdp_command.specs.Layout.{layout}
use Rattle.rdp_words.specs.Lengths.{first_number, whole_words}
use Rattle.rdp_command.specs.Decode.{own_words, command_in, decode_of, answer}
use Rattle.rdp_words.specs.Grounds.{Answer}
use Rattle.rdp_command.specs.Decode.{Refused}
use Rattle.rdp_words.proofs.Tests.{below}
use Rattle.rdp_command.proofs.AnswerLaws.{refusal-first}

-- ---- decoding

-- decoding refuses by 3 at 0
pub decode-refused : (bs : List ℕ) {a : Answer} → decode_of bs ≡ Refused a → a ≡ answer 3 0
unfolding decode_of
decode-refused bs e = refusal-first (eqb (whole_words bs) 0) (command_in (first_number bs) (own_words bs (whole_words bs))) (answer 3 0) e

-- at most 37 bit lines
pub lines-most : (n : ℕ) → n < 64 → length (layout n) ≤ 37
unfolding layout
lines-most n h = leb→le _ _ (below 64 (λ k. leb (length (layout k)) 37) tt n h)
