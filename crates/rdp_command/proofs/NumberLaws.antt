-- The number of a command that was read. Assumes nothing.
use Prim.Native.Nat.{ℕ, zero, suc, ◌+◌, ◌-◌, ◌*◌, ◌/◌, ◌%◌, ◌^◌, ◌<◌}
use mathlib.Core.Bool.{Bool, not, ◌||◌}
use mathlib.Core.List.{List}
use mathlib.Core.Path.{◌≡◌, refl, ap, sym, ◌∙◌}
use native.Mathlib.Nat.{mod-lt, div-one}
use native.Mathlib.Omega.{arith}
use borrow.Author.Tests.{eq-eqb}
use lib.Dec.{eqb, eqb→eq, lit<}
use lib.ListN.{get_or}
use lib.Pow.{shr-shr}
use Rattle.rdp_words.specs.Words.{number_in}
use Rattle.rdp_command.specs.Layout.{Line, width, one_bit, layout}
use Rattle.rdp_command.specs.Fields.{shift_right, bits_at, fields_of}
use Rattle.rdp_command.specs.Commands.{command_of, number_of}
use Rattle.rdp_command.specs.Decode.{command_in}
use Rattle.rdp_words.proofs.Tests.{below}
use Rattle.rdp_command.proofs.CommandLaws.{at-triangle}
use Rattle.rdp_command.proofs.GroupLaws.{Each, by_number, unassigned-command, flag-kept-bits}

-- ---- a command that was read

-- a triangle's number by its low three bits
abbrev flags_test : ℕ → Bool
flags_test n = not (eqb (n / 8) 1) || eqb (8 + n / 4 % 2 * 4 + n / 2 % 2 * 2 + n % 2) n

pub by_flags : (n : ℕ) → n < 64 → n / 8 ≡ 1 → 8 + n / 4 % 2 * 4 + n / 2 % 2 * 2 + n % 2 ≡ n
by_flags n h e = let t = below 64 flags_test tt n h in eqb→eq _ _ (rw (eq-eqb (n / 8) 1 e) at t)

third-bit : (x : ℕ) → x / 4 % 2 ≡ x % 64 / 4 % 2
third-bit x = omega arith

second-bit : (x : ℕ) → x / 2 % 2 ≡ x % 64 / 2 % 2
second-bit x = omega arith

first_bit : (x : ℕ) → x % 2 ≡ x % 64 % 2
first_bit x = omega arith

low_bits : (x : ℕ) → x % 64 / 8 ≡ 1 → 8 + x / 4 % 2 * 4 + x / 2 % 2 * 2 + x % 2 ≡ x % 64
low_bits x e =
    (λ i. 8 + third-bit x i * 4 + second-bit x i * 2 + first_bit x i) ∙ by_flags (x % 64) (mod-lt x (lit< tt)) e

shift-right : (n k : ℕ) → shift_right n k ≡ n / 2 ^ k
shift-right n zero = sym (div-one n)
shift-right n (suc k) = refl

pub bits_are : (l : Line) (w : ℕ) → bits_at l w ≡ w / 2 ^ l.low % 2 ^ width l
bits_are l w = ap (λ (x : ℕ). x % 2 ^ width l) (shift-right w l.low)

flag-bits : (w k : ℕ) → bits_at (one_bit 0 (56 + k)) w ≡ w / 2 ^ 56 / 2 ^ k % 2
flag-bits w k = bits_are (one_bit 0 (56 + k)) w ∙ (let e : 56 + k - (56 + k) + 1 ≡ 1 = omega arith in rw (e, shr-shr w 56 k))

triangle-number-read : (n : ℕ) (ws : List ℕ) → n / 8 ≡ 1 → number_in (get_or ws 0 0) ≡ n → number_of (command_in n ws) ≡ n
triangle-number-read n ws e h =
    let w = get_or ws 0 0 in
    let t : w / 2 ^ 56 % 64 / 8 ≡ 1 = ap (λ (x : ℕ). x / 8) h ∙ e in
    ap number_of (sym (at-triangle n ws e)) ∙
    (λ i. 8 + (flag-kept-bits w 58 ∙ flag-bits w 2) i * 4 + (flag-kept-bits w 57 ∙ flag-bits w 1) i * 2 + (flag-kept-bits w 56 ∙ flag-bits w 0 ∙ ap (λ (x : ℕ). x % 2) (div-one (w / 2 ^ 56))) i) ∙
    low_bits (w / 2 ^ 56) t ∙
    h

-- every number decodes to a command of that number
pub number_read : (n : ℕ) → n < 64 → (ws : List ℕ) → number_in (get_or ws 0 0) ≡ n → number_of (command_in n ws) ≡ n
unfolding command_of Each
number_read =
    by_number (λ (n : ℕ). (ws : List ℕ) → number_in (get_or ws 0 0) ≡ n → number_of (command_in n ws) ≡ n) (λ n e ws h. triangle-number-read n ws e h) (λ ws h. refl) (
      λ ws h. refl,
      (
        λ ws h. refl,
        (
          λ ws h. refl,
          (
            λ ws h. refl,
            (
              λ ws h. refl,
              (
                λ ws h. refl,
                (
                  λ ws h. refl,
                  (
                    λ ws h. refl,
                    (
                      λ ws h. refl,
                      (
                        λ ws h. refl,
                        (
                          λ ws h. refl,
                          (
                            λ ws h. refl,
                            (
                              λ ws h. refl,
                              (
                                λ ws h. refl,
                                (
                                  λ ws h. refl,
                                  (
                                    λ ws h. refl,
                                    (
                                      λ ws h. refl,
                                      (
                                        λ ws h. refl,
                                        (
                                          λ ws h. refl,
                                          (
                                            λ ws h. refl,
                                            (
                                              λ ws h. refl,
                                              (
                                                λ ws h. refl,
                                                (
                                                  λ ws h. refl,
                                                  (
                                                    λ ws h. refl,
                                                    (
                                                      λ ws h. refl,
                                                      (
                                                        λ ws h. refl,
                                                        (
                                                          λ ws h. refl,
                                                          tt,
                                                        ),
                                                      ),
                                                    ),
                                                  ),
                                                ),
                                              ),
                                            ),
                                          ),
                                        ),
                                      ),
                                    ),
                                  ),
                                ),
                              ),
                            ),
                          ),
                        ),
                      ),
                    ),
                  ),
                ),
              ),
            ),
          ),
        ),
      ),
    )
    (λ n e ws h. ap number_of (unassigned-command n (fields_of (layout n) ws) e))
