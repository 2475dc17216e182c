-- `rdp_repair::repairing::write_command` meets its contract: two writes, one behind the other, are one. Assumes nothing.
use Rattle.std.proofs.Common.{ℕ, List, ◌+◌, length, length-append, ap₂, ◌∙◌, arith}
use Rattle.rdp_words.specs.Words.{pasted}
use Rattle.rdp_words.proofs.OverwriteLaws.{pasted-append, part-copied}
use Rattle.rdp_hazards.specs.Hazards.{code_in}
use Rattle.rdp_repair.specs.Work.{option_bytes}
use Rattle.rdp_repair.proofs.repairing.write_command.Goals as goal

pub returns : goal.returns
returns c =
    let command : List ℕ = c.args.command.now in
    let word : List ℕ = option_bytes (code_in c.args.sync) in
    let next : ℕ = c.put_sync-next.result in
    let put = c.put_sync-next.ensures in
    record {
      after = omega (arith, put.after, length-append word command);
      output =
          part-copied command c.put_sync-next.new.out c.copy.new.out next (next + length command) (omega arith)
          (omega (arith, put.after, c.put_sync-next.auto.out, c.requires)) c.copy.ensures ∙
          ap₂ (λ (k : ℕ) (l : List ℕ). pasted k command l) put.after put.output ∙
          pasted-append c.args.to word command c.args.out.now (omega (arith, c.requires));
    }
