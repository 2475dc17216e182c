-- A Load Block by its strip: refusals, and what is moved. Assumes nothing.
use mathlib.Core.Path.{◌≡◌, refl, sym, ap, ◌∙◌}
use mathlib.Core.Bool.{true, false, ◌&&◌}
use mathlib.Core.List.{List}
use Prim.Native.Nat.{ℕ, ◌+◌, ◌*◌, ◌%◌, ◌≤◌, ◌<◌}
use native.Mathlib.Omega.{arith}
use borrow.Author.Tests.{leb-true, eq-eqb}
use lib.Dec.{leb}
use lib.ListN.{length}
use Rattle.rdp_command.specs.declared.LoadFields.{LoadFields}
use Rattle.rdp_words.proofs.Tests.{by-test}
use Rattle.rdp_check.specs.Order.{first_of}
use Rattle.rdp_pixels.proofs.BoolLaws.{and_is}
use Rattle.rdp_texels.specs.Texels.{loaded}
use Rattle.rdp_texels.specs.Load.{load_needs}
use Rattle.rdp_texels.proofs.ActLaws.{never, both-lie}
use Rattle.rdp_block.specs.Block.{block_count, block_needs, block_moves, block_refusals, block_refusal, block_texture}
use Rattle.rdp_block.specs.Strips.{Strip, strip_moves, strip_of, flat, strip_refusal, Fits}
use Rattle.rdp_block.proofs.StripLaws.{block-strip}
use Rattle.rdp_block.proofs.EndLaws.{strip-refusal}

module _ (l : LoadFields) where
  -- the answer is the first that holds of the refusals in order
  pub block-first : (start len : ℕ) → block_refusal l start len ≡ first_of (block_refusals l start len) 0
  unfolding block_refusal
  block-first start len = refl

  pub block-broken : (start len : ℕ) → block_needs l ≡ false → 17 ≡ block_refusal l start len
  unfolding block_refusal
  block-broken start len e = rw e

  needs-count : block_needs l ≡ true → (0 < block_count l) × (block_count l ≤ 2048)
  unfolding block_needs
  needs-count e =
      let parts = and_is (load_needs l) (leb 1 (block_count l) && leb (block_count l) 2048) e in
      let ends = and_is (leb 1 (block_count l)) (leb (block_count l) 2048) parts.1 in
      (leb-true 1 (block_count l) ends.0, leb-true (block_count l) 2048 ends.1)

  module _ (start : ℕ) where
    strip-whole : (strip_of start l).ahead % 8 ≡ 0
    strip-whole = omega arith

    strip-some : block_needs l ≡ true → 0 < (strip_of start l).count
    strip-some e = (needs-count e).0

    module _ {q : Strip} (is : q ≡ strip_of start l) where
      pub block-refusal-is : (len : ℕ) {r : ℕ} → block_needs l ≡ true → r ≡ strip_refusal q len → r ≡ block_refusal l start len
      unfolding block_refusal
      block-refusal-is len needs e =
          e ∙ ap (λ (x : Strip). strip_refusal x len) is
          ∙ rw (needs, block-strip start l) (sym (strip-refusal (strip_of start l) (strip-some needs) strip-whole len))

      -- where nothing is refused, the strip is there
      pub block-fits : (len bytes : ℕ) → bytes ≡ 4096 → block_refusal l start len ≡ 0 → Fits q len bytes
      unfolding block_refusal
      block-fits len bytes size clear =
          by-test (block_needs l)
          (λ needs.
          let none : strip_refusal (strip_of start l) len ≡ 0 =
          sym (strip-refusal (strip_of start l) (strip-some needs) strip-whole len) ∙ rw (needs, block-strip start l) at clear in
          let lie = both-lie (flat q.address q.count q.start len) (flat q.ahead q.count 0 4096) (rw is none) in
          let memory = and_is (leb q.start q.address) (leb (q.address + 2 * q.count) (q.start + len)) lie.0 in
          let texture = and_is (leb 0 q.ahead) (leb (q.ahead + 2 * q.count) (0 + 4096)) lie.1 in
          let high = leb-true (q.ahead + 2 * q.count) (0 + 4096) texture.1 in
          record {
            from = leb-true q.start q.address memory.0;
            memory = leb-true (q.address + 2 * q.count) (q.start + len) memory.1;
            texture = omega arith;
            whole = rw is strip-whole;
            size = size;
          })
          (λ broken. never 17 (omega arith) (rw broken at clear))

      pub block-loaded : (memory texture : List ℕ) {after : List ℕ} → after ≡ loaded q.start memory (strip_moves q 0 q.count) texture
          → after ≡ loaded start memory (block_moves l) texture
      block-loaded memory texture e = e ∙ rw (is, block-strip start l)

-- what is left where nothing is refused
pub block-leaves : (start : ℕ) (memory texture : List ℕ) → length texture ≡ 4096 → (l : LoadFields) → block_refusal l start (length memory) ≡ 0
    → block_texture l start memory texture ≡ loaded start memory (block_moves l) texture
unfolding block_texture
block-leaves start memory texture size l e = rw (eq-eqb (length texture) 4096 size, e)
