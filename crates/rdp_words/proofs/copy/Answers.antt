-- `rdp_words::copy` meets its contract: after i turns the first i bytes are copied. Assumes nothing.
use Prim.Native.Nat.{ℕ, zero-le, min}
use mathlib.Core.List.{List}
use mathlib.Core.Path.{◌≡◌, refl, ap, ◌∙◌}
use native.Mathlib.Omega.{arith}
use lib.ListN.{length, take, set, get_or}
use Rattle.rdp_words.specs.Words.{overwrite}
use Rattle.rdp_words.proofs.OverwriteLaws.{copied_more, copied-both, length-copied}
use Rattle.rdp_words.proofs.copy.Goals.{At-loop-i}
use Rattle.rdp_words.proofs.copy.Goals as goal

module _ (c : At-loop-i) where
  abbrev out : List ℕ
  out = c.args.out.now

  abbrev src : List ℕ
  src = c.args.src.now

  -- what is copied so far has the length of the output
  long : length c.loop-i.out ≡ length out
  long = ap length c.loop-i.invariant.2 ∙ length-copied out src c.loop-i.i c.loop-i.invariant.0 c.loop-i.invariant.1

  -- all is copied where one of the two is at its end
  done : c.loop-i.i ≡ min (length out) (length src) → c.loop-i.out ≡ overwrite (take (length out) src) out
  done end = c.loop-i.invariant.2 ∙ copied-both out src c.loop-i.i end

pub loop-i-init : goal.loop-i-init
loop-i-init c = (zero-le, zero-le, refl)

pub returns-then-out-i : goal.returns-then-out-i
returns-then-out-i c =
    let there = (goal.at.returns-then-out-i c).At-loop-i in
    done there (omega (arith, long there))

pub loop-i-preserved : goal.loop-i-preserved
loop-i-preserved c =
    let there = (goal.at.loop-i-preserved c).At-loop-i in (
      omega arith,
      omega (arith, long there),
      ap (λ (l : List ℕ). set l c.loop-i.i (get_or (src there) c.loop-i.i 0)) c.loop-i.invariant.2 ∙
          copied_more (out there) (src there) c.loop-i.i (omega arith) (omega (arith, long there)),
    )

pub returns : goal.returns
returns c = done (goal.at.returns c).At-loop-i (omega arith)
