-- The roles of commands: what comes after each, and the RDP command that it becomes. Assumes nothing.
use Rattle.std.proofs.Common.{ℕ, ◌%◌, ◌^◌, ◌≤◌, ◌<◌, Bool, true, not, ◌&&◌, ◌||◌, [], ◌≡◌, ◌∙◌, arith, eqb-true, ltb-true, ltb-false, le-leb, T, eqb, ltb, eqb→eq}
use Rattle.std.proofs.lemmas.Bool.{lt-leb}
use Rattle.std.proofs.lemmas.Bool.Decides.{nat_tests}
use Rattle.rdp_words.specs.Words.{number_in}
use Rattle.rdp_words.specs.Kinds.{between, words_of, words_of_kind}
use Rattle.rdp_words.specs.Kinds as rdp
use Rattle.rdp_words.proofs.Tests.{below, by-test}
use Rattle.rdp_words.proofs.KindLaws.{by-kinds, words-of-kind}
use Rattle.f3dex2.specs.Commands.{first_byte, Role, straight, rectangle, modes, list, end, unnamed, role_of, command_word, modes_word}
use Rattle.f3dex2.specs.Written.{becomes}
use Rattle.f3dex2.specs.declared.Setting.{Setting}

-- the words of the RDP command that a role becomes, and whether half-words are due after it
abbrev pub role_test : Role → ℕ → Bool
role_test straight n = not (between 0xE4 0xE5 n) && eqb (words_of (n % 64)) 1
role_test rectangle n = between 0xE4 0xE5 n && eqb (words_of (n % 64)) 2
role_test modes n = not (between 0xE4 0xE5 n)
role_test list n = not (between 0xE4 0xE5 n)
role_test end n = not (between 0xE4 0xE5 n)
role_test unnamed n = not (between 0xE4 0xE5 n)

-- no byte has a number of 256 or more
unnamed-beyond : (n : ℕ) → 256 ≤ n → role_of n ≡ unnamed
unfolding role_of
unnamed-beyond n h = grind (arith, nat_tests)

beyond : (n : ℕ) → 256 ≤ n → T (role_test (role_of n) n)
beyond n h = rw (unnamed-beyond n h, le-leb 0xE4 n (omega arith), lt-leb n 0xE5 (omega arith)) tt

within : (n : ℕ) → n < 256 → T (role_test (role_of n) n)
unfolding role_of words_of rdp.kind_of
within n h = below 256 (λ k. role_test (role_of k) k) tt n h

pub role-known : (n : ℕ) → T (role_test (role_of n) n)
role-known n = by-test (ltb n 256) (λ t. within n (ltb-true _ _ t)) (λ f. beyond n (ltb-false _ _ f))

-- a half-word becomes none
pub first-none : (n : ℕ) → eqb n 0xE1 ≡ true → becomes (role_of n) n ≡ []
unfolding role_of
first-none n e = rw (eqb-true n 0xE1 e)

pub second_none : (n : ℕ) → eqb n 0xF1 ≡ true → becomes (role_of n) n ≡ []
unfolding role_of
second_none n e = rw (eqb-true n 0xF1 e)

-- ---- the first words of commands

pub number-kept : (w : ℕ) → number_in (command_word w) ≡ first_byte w % 64
number-kept w = omega arith

pub modes-one : words_of 0x2F ≡ 1
modes-one = words-of-kind 0x2F ∙ eqb→eq _ _ (by-kinds (λ k n. not (eqb n 0x2F) || eqb (words_of_kind k n) 1) tt 0x2F (omega arith))

module _ (s : Setting) (small : s.low < 2 ^ 32) where
  pub modes-number : number_in (modes_word s) ≡ 0x2F
  modes-number = omega arith

  pub modes-small : modes_word s < 2 ^ 62
  modes-small = omega arith
