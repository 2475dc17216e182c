-- `rdp_repair::plan::row_before` meets its contract: after m turns the first m totals and choices stand. Assumes nothing.
use Rattle.std.proofs.Common.{◌≡◌, ℕ, ◌/◌, ◌%◌, min, length, get_or}
use Rattle.rdp_repair.proofs.TabulateLaws.{Holds}
use Rattle.rdp_repair.proofs.plan.row_before.Given as goal

abbrev pub invariant-loop-m : goal.invariant-loop-m
invariant-loop-m l =
    let r : ℕ → ℕ = λ j. min (get_or l.ranks j 0) (get_or l.synced (j % 4) 0) in
    (length l.totals ≡ 16) × (length l.choices ≡ 16) × Holds l.totals (λ j. r j / 64) l.m × Holds l.choices (λ j. r j % 64) l.m
