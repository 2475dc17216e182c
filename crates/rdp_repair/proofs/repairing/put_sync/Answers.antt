-- `rdp_repair::repairing::put_sync` meets its contract: the word is copied, or nothing is. Assumes nothing.
use Rattle.std.proofs.Common.{◌≡◌, ℕ, List, ◌+◌, ◌≤◌, length, sym, ap, ◌∙◌, arith}
use Rattle.rdp_words.specs.Words.{bare_word, pasted}
use Rattle.rdp_words.proofs.OverwriteLaws.{pasted-none, part-copied}
use Rattle.rdp_hazards.specs.Hazards.{code_in}
use Rattle.rdp_repair.specs.Work.{option_bytes}
use Rattle.rdp_repair.proofs.WriteLaws.{sync-none, sync-some}
use Rattle.rdp_repair.proofs.repairing.put_sync.Goals.{After-number}
use Rattle.rdp_repair.proofs.repairing.put_sync.Goals as goal

-- the bytes of the sync are those of the local array
is_word : (at : After-number) → option_bytes (code_in at.args.sync) ≡ bare_word at.number.result
is_word at = sync-some _ _ at.in-Some.is ∙ ap bare_word (sym at.number.ensures)

pub returns-in_default : goal.returns-in_default
returns-in_default c =
    let e = sync-none _ c.in_default.is in
    record {
      after = omega (arith, ap length e);
      output = sym (pasted-none c.args.to _) ∙ ap (λ (b : List ℕ). pasted c.args.to b c.args.out.now) (sym e);
    }

pub slice_bounds-copy-end : goal.slice_bounds-copy-end
slice_bounds-copy-end c = omega (arith, c.requires, ap length (is_word (goal.at.slice_bounds-copy-end c).After-number))

pub returns : goal.returns
returns c =
    let to : ℕ = c.args.to in
    let out : List ℕ = c.args.out.now in
    let e = is_word (goal.at.returns c).After-number in
    let room : to + 8 ≤ length out = omega (arith, c.requires, ap length e) in
    record {
      after = omega (arith, ap length e);
      output =
          part-copied (bare_word c.number.result) out c.copy.new.out to (to + 8) (omega arith) room c.copy.ensures ∙
          ap (λ (b : List ℕ). pasted to b out) (sym e);
    }
