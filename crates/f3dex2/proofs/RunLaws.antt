-- What holds at the head of the loop of `run_list`: the walk from the start of the list is the walk from here. Assumes nothing.
use Rattle.std.proofs.Common.{◌≡◌, List, ℕ, ◌≤◌, length}
use Rattle.f3dex2.specs.Steps.{walk_from}
use Rattle.f3dex2.specs.declared.Walker.{Walker}

pub record Ran (begun : Walker) (start depth : ℕ) (w : Walker) (at : ℕ) : Type 0 where
  pub more : begun.read ≤ w.read
  pub same : (returns : List ℕ) → length returns ≡ depth → walk_from begun returns start ≡ walk_from w returns at
  pub same_output : w.out.ghost_name ≡ begun.out.ghost_name
