use Rattle.std.proofs.Common.{◌≡◌, ◌+◌, ◌-◌, ◌*◌, length, arith, le-leb}
use Rattle.std.proofs.lemmas.Bool.{lt-leb}
use Rattle.rdp_words.specs.Words.{overwrite, pasted}
use Rattle.f3dex2.specs.Steps.{put_word}
use Rattle.f3dex2.proofs.output.put.Goals as goal

pub returns-then-k-out : goal.returns-then-k-out
unfolding put_word pasted overwrite
returns-then-k-out c =
    let given = c.args in
    let eight : 8 * given.k + 8 - 8 * given.k ≡ 8 = omega arith in
    rw (le-leb (8 * given.k + 8) (length given.out.now) (omega (arith, c.if-k-out.true)), c.copy_from_slice.ensures.after, c.bytes_of-bytes.ensures, eight)

pub returns-else-k-out : goal.returns-else-k-out
unfolding put_word
returns-else-k-out c =
    let given = c.args in
    rw (lt-leb (8 * given.k + 8) (length given.out.now) (omega (arith, c.if-k-out.false)))
