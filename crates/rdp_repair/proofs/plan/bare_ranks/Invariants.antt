-- `rdp_repair::plan::bare_ranks` meets its contract: after m turns the first m ranks stand. Assumes nothing.
use Rattle.std.proofs.Common.{◌≡◌, length, get_or}
use Rattle.rdp_repair.specs.Work.{bare_rank}
use Rattle.rdp_repair.proofs.TabulateLaws.{Holds}
use Rattle.rdp_repair.proofs.plan.bare_ranks.Given as goal

abbrev pub invariant-loop-m : goal.invariant-loop-m
invariant-loop-m l = (length l.ranks ≡ 16) × Holds l.ranks (bare_rank l.number (λ k. get_or l.after k 0)) l.m
