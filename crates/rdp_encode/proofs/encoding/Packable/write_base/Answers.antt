use Rattle.std.proofs.Common.{◌*◌, sym, ◌∙◌}
use Rattle.rdp_words.specs.Words.{bytes_of, pasted}
use Rattle.rdp_encode.proofs.Bytes.{packed_none, packed_more}
use Rattle.rdp_encode.proofs.encoding.Packable.write_base.Goals as goal

pub loop-k-init : goal.loop-k-init
loop-k-init c = sym (packed_none c.args.self.number c.args.self.numbers.now c.args.out.now)

pub loop-k-preserved : goal.loop-k-preserved
loop-k-preserved c =
    c.put_word.ensures ∙
    (λ i. pasted (8 * c.loop-k.k) (bytes_of (c.word-w.ensures i)) (c.loop-k.invariant i)) ∙
    packed_more c.args.self.number c.args.self.numbers.now c.args.out.now c.loop-k.k
