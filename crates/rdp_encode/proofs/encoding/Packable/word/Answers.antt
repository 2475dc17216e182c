use Rattle.std.proofs.Common.{ℕ, List, ap, ◌∙◌, lit<}
use Rattle.rdp_command.specs.Layout.{Line, layout}
use Rattle.rdp_encode.specs.Placed.{at_lines}
use Rattle.rdp_encode.proofs.LayoutLaws.{rest_lt, word_lt}
use Rattle.rdp_encode.proofs.encoding.Packable.word.Goals as goal

pub packed-rest-requires : goal.packed-rest-requires
packed-rest-requires c = rw c.of.ensures (rest_lt c.args.self.number c.args.self.small c.args.self.numbers.now c.args.k c.requires)

pub overflow_add-result : goal.overflow_add-result
overflow_add-result c =
    let self = c.args.self in
    let ns = self.numbers.now in
    let w = word_lt self.number self.small ns 0 (lit< tt) in
    let r = c.packed-rest.ensures ∙ ap (λ (ls : List Line). at_lines c.args.k ls ns) c.of.ensures ∙ ap (λ (k : ℕ). at_lines k (layout self.number) ns) c.if-k-eq0.true in
    record { fits = rw (c.fixed_bits.ensures, r) w }
