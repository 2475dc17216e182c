-- What a command does as one value is what the walk's definition says of it. Assumes nothing.
use Rattle.std.proofs.Common.{arith, ℕ, suc, ◌/◌, true, cond, not, List, ◌≡◌, refl, length}
use Rattle.std.proofs.lemmas.Bool.Decides.{nat_tests}
use Rattle.rdp_words.specs.Words.{word_at}
use Rattle.f3dex2.specs.Commands.{first_byte, Role, straight, rectangle, modes, list, end, unnamed, role_of, setting_after, invalid}
use Rattle.f3dex2.specs.Walk.{Walked, readable, named, word_refusal, runs_role, runs, judged, walk}
use Rattle.f3dex2.specs.Steps.{role_action, action_by, action_of, perform}
use Rattle.f3dex2.specs.declared.Due.{Due}
use Rattle.f3dex2.specs.declared.Due.TheVariants.{Command, FirstHalf, SecondHalf}
use Rattle.f3dex2.specs.declared.Setting.{Setting}

-- one command, with the setting after it and the walk from there on
module _ (go : List ℕ → ℕ → Setting → Walked) (returns : List ℕ) (at : ℕ) (s : Setting) where
  -- the refusals of a role, and what it does
  abbrev role_step : Role → ℕ → ℕ → Walked
  role_step k n w = judged (cond (not (named k)) 22 (cond (invalid k (length returns) n w) 23 0)) at w (runs_role go returns at s w k)

  role-is : (k : Role) (n w : ℕ) → role_step k n w ≡ perform go returns at w s (role_action k s (length returns) n w)
  role-is straight n w = grind (arith, nat_tests)
  role-is rectangle n w = refl
  role-is modes n w = grind (arith, nat_tests)
  role-is list n w = grind (arith, nat_tests)
  role-is end n w = refl
  role-is unnamed n w = refl

  step_is : (due : Due) (w : ℕ) →
      judged (word_refusal due (length returns) (first_byte w) w) at w (runs go returns at s w due) ≡
      perform go returns at w s (action_by due s (length returns) (first_byte w) w)
  step_is Command w = role-is (role_of (first_byte w)) (first_byte w) w
  step_is FirstHalf w = grind (arith, nat_tests)
  step_is (SecondHalf first) w = grind (arith, nat_tests)

-- the walk from an offset where a command can be read
pub stepped :
    (memory : List ℕ) (at left : ℕ) (returns : List ℕ) (s : Setting) → readable memory at ≡ true →
    walk memory (suc left) returns at s ≡
    perform (walk memory left) returns at (word_at memory (at / 8)) (setting_after s (word_at memory (at / 8))) (action_of s (length returns) (word_at memory (at / 8)))
unfolding walk action_of
stepped memory at left returns s e =
    let w = word_at memory (at / 8) in
    rw e (step_is (walk memory left) returns at (setting_after s w) s.due w)
