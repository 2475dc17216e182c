-- `lanyardrove::close_packed` meets its contract: the answer is packed, and the record is handed on. Assumes nothing.
use Rattle.std.proofs.Common.{◌≡◌, ◌<◌, ◌^◌, cond, length, ap, ◌∙◌, rules}
use Rattle.std.specs.Prelude.{eqb}
use Rattle.rdp_stream.specs.Records.{Fed, closed_of}
use Rattle.lanyardrove.specs.Replies.{told_reply, of_close}
use Rattle.lanyardrove.proofs.BoundLaws.{small}
use Rattle.lanyardrove.proofs.ReplyLaws.{told-of}
use Rattle.lanyardrove.proofs.close_packed.Goals.{After-third_of_record-cycles}
use Rattle.lanyardrove.proofs.close_packed.Goals as goal

-- the third number, by the record after the call
third : (c : After-third_of_record-cycles) → c.third_of_record-cycles.result ≡ (told_reply (closed_of c.args.before)).third
third c = c.third_of_record-cycles.ensures ∙ ap (λ (x : Fed). cond (eqb x.answer.number 28) 0 x.after.waited) c.close_value-closed.ensures

pub pack_answer-answer-requires : goal.pack_answer-answer-requires
pack_answer-answer-requires c =
    let r = c.args.before in
    let long : length r.held ≡ 176 = search (rules, c.well_formed.0.1.1.1.0) in
    let near : r.place < 2 ^ 32 = search (rules, c.well_formed.0.1.1.1.1.1.1.1.0) in
    rw (third c) (small (of_close r long near)).third

pub returns : goal.returns
returns c =
    let e = c.close_value-closed.ensures in
    λ i. record {
      after = (e i).after;
      answer = (c.pack_answer-answer.ensures ∙ told-of (third (goal.at.returns c).After-third_of_record-cycles) e) i;
    }
