-- The cycles that commands wait. Assumes nothing.
use mathlib.Core.List.{List, [], ◌∷◌, ◌++◌}
use mathlib.Core.Path.{◌≡◌}
use Prim.Native.Nat.{ℕ, ◌+◌, ◌*◌, ◌≤◌}
use native.Mathlib.Omega.{arith}
use lib.Dec.{eqb, lit≤}
use Rattle.rdp_words.specs.Lengths.{first_number}
use Rattle.rdp_words.proofs.Tests.{by-test}
use Rattle.rdp_hazards.specs.Syncs.{command_wait, waiting}
use Rattle.rdp_check.specs.Commands.{words_in}
use Rattle.rdp_check.proofs.JoinLaws.{command-some}

pub command-wait-most : (n : ℕ) → command_wait n ≤ 50
unfolding command_wait
command-wait-most n =
    by-test (eqb n 0x26) (λ a. rw a (lit≤ tt))
    (λ a. by-test (eqb n 0x28) (λ b. rw (a, b) (lit≤ tt)) (λ b. by-test (eqb n 0x27) (λ d. rw (a, b, d) (lit≤ tt)) (λ d. rw (a, b, d) (lit≤ tt))))

pub waiting-append : (bs cs : List (List ℕ)) → waiting (bs ++ cs) ≡ waiting bs + waiting cs
unfolding waiting
waiting-append [] cs = omega arith
waiting-append (b ∷ bs) cs = omega (arith, waiting-append bs cs)

-- each has a word at least
pub waiting-most : (cs : List (List ℕ)) → waiting cs ≤ 50 * words_in cs
unfolding waiting
waiting-most [] = lit≤ tt
waiting-most (c ∷ cs) = omega (arith, command-wait-most (first_number c), waiting-most cs, command-some c)
