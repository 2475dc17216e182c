use Rattle.std.proofs.Common.{◌+◌, refl, ◌∙◌}
use Rattle.rdp_words.specs.Words.{bytes_of}
use Rattle.rdp_encode.proofs.Bytes.{part-put}
use Rattle.rdp_encode.proofs.words.put_word.Goals as goal

pub returns : goal.returns
returns c =
    let at = c.args.at in
    let out = c.args.out.now in
    let e = c.copy_from_slice.ensures.after ∙ c.bytes_of.ensures in
    rw e (part-put (bytes_of c.args.w) out at (at + 8) refl)
