use Rattle.std.proofs.Common.{ℕ, ◌+◌, ◌/◌, ◌%◌, ◌^◌, List, [], ◌∷◌, length, refl, sym, ap, ◌∙◌, arith}
use Rattle.rdp_words.specs.Words.{pasted}
use Rattle.rdp_words.proofs.OverwriteLaws.{pasted-none}
use Rattle.rdp_encode.proofs.Bytes.{part-put}
use Rattle.rdp_compare.proofs.PairLaws.{entry-none, entry-of}
use Rattle.rdp_compare.proofs.entries.put_entry.Goals as goal

pub returns-in_default : goal.returns-in_default
returns-in_default c =
    let p = c.args.pair in
    let e = entry-none p.a p.b p.first.now p.second.now c.in_default.ensures in
    record { after = omega (arith, ap length e); output = sym (pasted-none c.args.to c.args.entries.now) ∙ ap (λ (l : List ℕ). pasted c.args.to l c.args.entries.now) (sym e) }

pub returns : goal.returns
returns c =
    let p = c.args.pair in
    let m = c.in-Some.mask in
    let to = c.args.to in
    let entry : List ℕ = p.a ∷ p.b ∷ m / 2 ^ 32 ∷ m % 2 ^ 32 ∷ [] in
    let e = entry-of p.a p.b p.first.now p.second.now m c.in-Some.ensures in
    record {
      after = omega (arith, ap length e);
      output =
          rw c.copy_from_slice.ensures.after
          (part-put entry c.args.entries.now to (to + 4) refl ∙ ap (λ (l : List ℕ). pasted to l c.args.entries.now) (sym e));
    }
