-- `rdp_index::replacing::put_command` meets its contract, by that of the copy. Assumes nothing.
use Rattle.std.proofs.Common.{◌≡◌, ap, ◌∙◌, List, ℕ, ◌+◌, ◌*◌, ◌-◌, arith, length, take, length-take-le}
use Rattle.rdp_words.specs.Words.{pasted}
use Rattle.rdp_words.proofs.OverwriteLaws.{part-copied}
use Rattle.rdp_index.proofs.replacing.put_command.Goals as goal

pub returns : goal.returns
returns c =
    let list : List ℕ = c.args.list.now in
    let new : List ℕ = c.args.new.now in
    let at : ℕ = 8 * c.args.place in
    let count : ℕ = 8 * c.whole_words-count.result in
    let words = c.whole_words-count.ensures in
    let all : count - 0 ≡ count = omega arith in
    let long : length (take (count - 0) new) ≡ count = ap (λ (k : ℕ). length (take k new)) all ∙ length-take-le count new words.1 in
    part-copied (take (count - 0) new) list c.copy.new.out at (at + count) (omega (arith, long)) (omega (arith, words.0, c.requires))
    c.copy.ensures ∙
    ap (λ (k : ℕ). pasted at (take k new) list) (all ∙ ap (λ (n : ℕ). 8 * n) words.0)
