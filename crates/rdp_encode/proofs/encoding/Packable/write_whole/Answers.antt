use Rattle.std.proofs.Common.{ℕ, ◌*◌, ◌+◌, List, length, arith, ap, ◌∙◌}
use Rattle.rdp_words.specs.Words.{overwrite, pasted}
use Rattle.rdp_words.proofs.OverwriteLaws.{pasted-after, part-copied}
use Rattle.rdp_encode.specs.Encode.{packed_bytes}
use Rattle.rdp_encode.proofs.Bytes.{packed-long, whole-bytes}
use Rattle.rdp_encode.proofs.encoding.Packable.write_whole.Goals as goal

pub returns : goal.returns
returns c =
    let n = c.args.self.number in
    let ns = c.args.self.numbers.now in
    let suffix = c.args.suffix.now in
    let out = c.args.out.now in
    let k = c.min-base.result in
    (part-copied suffix c.write_base.new.out c.copy.new.out (8 * k) (8 * k + length suffix) (omega arith)
    (omega (arith, c.write_base.auto.out, c.min-base.ensures, c.requires)) c.copy.ensures ∙
    ap (pasted (8 * k) suffix) c.write_base.ensures ∙
    pasted-after (packed_bytes n ns k) suffix out (8 * k) (packed-long n ns k) ∙
    ap (λ (bs : List ℕ). overwrite bs out) (whole-bytes n ns suffix (omega (arith, c.min-base.ensures, c.requires.0))))
