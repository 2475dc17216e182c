-- `rdp_index::replacing::renew` meets its contract: of the entries made aside the later ones are copied. Assumes nothing.
use Rattle.std.proofs.Common.{◌≤◌, ◌*◌, length, refl, arith}
use Rattle.std.proofs.Math.Seq.{length-take-le}
use Rattle.rdp_index.proofs.ReplaceLaws.{part-copied, renew-by}
use Rattle.rdp_index.proofs.replacing.renew.Goals as goal

pub returns : goal.returns
returns c =
    let i = rw c.unwrap-count.ensures at c.index_into.ensures in
    let few = i.few refl in
    let kept = c.kept-start.ensures in
    let front : 2 * c.unwrap-count.result ≤ length c.index_into.new.made = omega arith in
    let before : 2 * c.kept-start.result ≤ 2 * c.unwrap-count.result = omega (arith, kept.1, length-take-le _ _ front) in
    renew-by c.args.list.now _ _ i c.requires.0 c.args.place _ kept.0 _ _
    (part-copied c.args.entries.now _ _ _ _ before front c.copy_from_slice.ensures.after)
