-- What decoding answers, by the tests that it makes. Assumes nothing.
use Prim.Native.Nat.{ℕ, ◌/◌}
use mathlib.Core.Bool.{Bool, true, false, cond}
use mathlib.Core.List.{List}
use mathlib.Core.Path.{◌≡◌, refl, ap, sym}
use lib.Dec.{eqb, ltb}
use lib.ListN.{length}
use native.Mathlib.Omega.{arith}
use borrow.Author.Tests.{ne_eqb, eqb-false}
use Rattle.rdp_words.specs.Kinds.{words_of}
use Rattle.rdp_words.specs.Lengths.{first_number, whole_words}
use Rattle.rdp_command.specs.Decode.{answer, own_words, command_in, words_in, Whole, Refused, decode_of, decoded_from}
use Rattle.rdp_words.specs.Grounds.{Answer}
use Rattle.rdp_command.specs.declared.Command.{Command}
use Rattle.std.specs.Prelude.{Some}
use Rattle.rdp_command.specs.declared.Base.{Base}

-- ---- a test that answers a command or a refusal

never : {c : Command} {a : Answer} → Whole c ≡ Refused a → ⊥
never e = let z : ◌≡◌ {A = ℕ} 0 1 = cc in omega arith

-- what is refused
pub refusal-of : (b : Bool) (c : Command) (r : Answer) {a : Answer} → cond b (Whole c) (Refused r) ≡ Refused a → a ≡ r
refusal-of true c r e = absurd (never e)
refusal-of false c r e = cc

pub refusal-first : (b : Bool) (c : Command) (r : Answer) {a : Answer} → cond b (Refused r) (Whole c) ≡ Refused a → a ≡ r
refusal-first true c r e = cc
refusal-first false c r e = absurd (never e)

-- what is accepted, and that it was
accepted-first : (b : Bool) (c : Command) (r : Answer) {d : Command} → cond b (Refused r) (Whole c) ≡ Whole d → (b ≡ false) × (d ≡ c)
accepted-first true c r e = absurd (never (sym e))
accepted-first false c r e = (refl, cc)

pub accepted-of : (b : Bool) (c : Command) (r : Answer) {d : Command} → cond b (Whole c) (Refused r) ≡ Whole d → (b ≡ true) × (d ≡ c)
accepted-of true c r e = (refl, cc)
accepted-of false c r e = absurd (never (sym e))

-- ---- decoding

-- a command that was decoded is that of the words of the first command, which are there
module _ (bs : List ℕ) {c : Command} (d : decode_of bs ≡ Whole c) where
  pub decoded-there : whole_words bs ≡ 0 → ⊥
  unfolding decode_of
  decoded-there = eqb-false _ _ (accepted-first (eqb (whole_words bs) 0) (command_in (first_number bs) (own_words bs (whole_words bs))) (answer 3 0) d).0

  pub decoded-is : c ≡ command_in (first_number bs) (own_words bs (whole_words bs))
  unfolding decode_of
  decoded-is = (accepted-first (eqb (whole_words bs) 0) (command_in (first_number bs) (own_words bs (whole_words bs))) (answer 3 0) d).1

pub whole : (bs : List ℕ) {r : Command} → (whole_words bs ≡ 0 → ⊥) → r ≡ command_in (first_number bs) (own_words bs (whole_words bs)) → Whole r ≡ decode_of bs
unfolding decode_of
whole bs h e = rw (ne_eqb _ _ h) (ap Whole e)

-- the base of the first command gives what decoding answers
pub first_none : (bs : List ℕ) → whole_words bs ≡ 0 → Refused (answer 3 0) ≡ decode_of bs
unfolding decode_of
first_none bs none = rw none

pub first_gives : (bs : List ℕ) → (whole_words bs ≡ 0 → ⊥) → {b : Base} → b.number ≡ first_number bs → words_in b ≡ own_words bs (whole_words bs) → decoded_from 3 (Some b) ≡ decode_of bs
unfolding decode_of
first_gives bs some number words = rw (ne_eqb _ _ some, number, words)

cond-zero : (b : Bool) {x : ℕ} → (cond b 0 x ≡ 0 → ⊥) → cond b 0 x ≡ x
cond-zero true p = absurd (p refl)
cond-zero false p = refl

pub nonzero-words : (bs : List ℕ) → (whole_words bs ≡ 0 → ⊥) → whole_words bs ≡ words_of (first_number bs)
unfolding whole_words
nonzero-words bs h = cond-zero (ltb (length bs / 8) (words_of (first_number bs))) h
