-- `rdp_repair::repairing::clear` meets its contract, by the library's. Assumes nothing.
use Rattle.std.proofs.Common.{ℕ, List, ◌++◌, drop, replicate, sym, ap, ◌∙◌}
use Rattle.std.proofs.Math.ListN.{length-replicate}
use Rattle.std.proofs.Math.Seq.{length-take-le}
use Rattle.rdp_words.proofs.OverwriteLaws.{overwrite-is}
use Rattle.rdp_repair.proofs.repairing.clear.Goals as goal

pub returns : goal.returns
returns c =
    let n : ℕ = c.args.n in
    let work : List ℕ = c.args.work.now in
    let zeros = c.fill.ensures.after (λ y e. e) ∙ ap (λ (k : ℕ). replicate k 0) (length-take-le n work c.requires) in
    ap (λ (l : List ℕ). l ++ drop n work) zeros ∙ sym (overwrite-is (replicate n 0) work n (length-replicate n 0))
