-- A command that no refusal refuses. Assumes nothing.
use Rattle.std.proofs.Common.{ℕ, ◌+◌, ◌/◌, ◌≤◌, ◌<◌, Bool, true, false, cond, List, ◌≡◌, refl, arith, length}
use Rattle.std.proofs.lemmas.Bool.Decides.{nat_tests}
use Rattle.rdp_words.specs.Words.{word_at}
use Rattle.f3dex2.specs.Commands.{first_byte}
use Rattle.f3dex2.specs.Walk.{in_place, is_invalid, word_refusal, offset_refusal}
use Rattle.f3dex2.specs.declared.Due.{Due}
use Rattle.f3dex2.specs.declared.Setting.{Setting}

-- a test that refuses does not hold, and what is tested after it refuses nothing
passed : (b : Bool) (n x : ℕ) → 0 < n → cond b n x ≡ 0 → (b ≡ false) × (x ≡ 0)
passed true n x h z = absurd (omega arith)
passed false n x h z = (refl, z)

pub record Sane (due : Due) (depth n w : ℕ) : Type 0 where
  pub stands_in_place : in_place due n ≡ true
  pub valid : is_invalid due depth n w ≡ false

pub sane : (due : Due) (depth n w : ℕ) → word_refusal due depth n w ≡ 0 → Sane due depth n w
sane due depth n w z = record { stands_in_place = grind (arith, nat_tests); valid = grind (arith, nat_tests) }

module _ (memory : List ℕ) (left depth at : ℕ) (s : Setting) (z : offset_refusal memory left depth at s ≡ 0) where
  pub read-there : at + 8 ≤ length memory
  read-there = grind (arith, nat_tests)

  pub sane-there : Sane s.due depth (first_byte (word_at memory (at / 8))) (word_at memory (at / 8))
  sane-there = sane s.due depth (first_byte (word_at memory (at / 8))) (word_at memory (at / 8)) (grind (arith, nat_tests))

-- where no more may be read, something refuses
pub none_left : (memory : List ℕ) (depth at : ℕ) (s : Setting) → offset_refusal memory 0 depth at s ≡ 0 → ⊥
none_left memory depth at s z = grind (arith, nat_tests)

-- ---- which numbers there are

pub refusal-most : (memory : List ℕ) (left depth at : ℕ) (s : Setting) → offset_refusal memory left depth at s ≤ 23
refusal-most memory left depth at s = grind (arith, nat_tests)
