-- `rdp_block::loading::load_words` meets its contract. The loop's invariant: what is still to come of the whole words gives what was promised. Assumes nothing.
use Rattle.std.proofs.Common.{false, ℕ, ◌+◌, ◌-◌, ◌*◌, ◌/◌, ◌%◌, ◌≤◌, length, refl, ap, ◌∙◌, arith}
use native.Mathlib.Nat.{sub-zero}
use Rattle.rdp_texels.specs.Texels.{loaded}
use lib.Dec.{eqb}
use Rattle.rdp_texels.proofs.PartLaws.{length_part}
use Rattle.rdp_texels.proofs.ExchangeLaws.{both-eight, slice-eight, eight-moved}
use Rattle.rdp_block.specs.Strips.{strip_moves}
use Rattle.rdp_block.specs.Views.{stripped}
use Rattle.rdp_block.proofs.StripLaws.{strip-none, due-word, due-done, word-loaded}
use Rattle.rdp_block.proofs.loading.load_words.Goals as goal

pub returns-then-block-le128 : goal.returns-then-block-le128
returns-then-block-le128 c =
    let s = c.args in
    (omega arith, strip-none (stripped s.block) 0 0 s.block.start s.memory.now s.texture.now refl)

pub loop-j-preserved : goal.loop-j-preserved
loop-j-preserved c =
    let b = stripped c.args.block in
    let memory = c.args.memory.now in
    let p = c.requires in
    let v = c.loop-j in
    let l = c.loop-j-test.true in
    let read = b.address - b.start + 8 * v.j in
    let wrote = b.ahead + 8 * v.j in
    let inside : read + 8 ≤ length memory = omega (arith, l, p.from, p.memory) in
    let room : wrote + 8 ≤ length v.texture = omega (arith, l, p.texture, p.size, v.auto.texture) in
    let moved =
    eight-moved (eqb (c.line_of.result % 2) 1) read wrote memory v.texture inside room (omega (arith, p.whole))
    (c.move_eight.ensures ∙ both-eight _ _ (slice-eight read memory inside) (slice-eight wrote v.texture room)) in
    due-word v.j v.invariant l (ap length moved ∙ length_part (eqb (c.line_of.result % 2) 1) false read wrote memory v.texture 0 8)
    (word-loaded b memory v.texture (rw v.invariant.long p) v.j (omega (arith, l)) refl refl (ap (λ (n : ℕ). eqb (n % 2) 1) c.line_of.ensures.0) moved)

pub returns : goal.returns
returns c =
    let s = c.args in (
      omega arith,
      due-done c.loop-j.invariant (omega (arith, c.loop-j-test.false)) ∙
          ap (λ (n : ℕ). loaded s.block.start s.memory.now (strip_moves (stripped s.block) 0 n) s.texture.now) (sub-zero (4 * (s.block.count / 4))),
    )
