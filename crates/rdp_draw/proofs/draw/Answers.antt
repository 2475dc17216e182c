-- `rdp_draw::draw` meets its contract: the answer and the memories at each return. Assumes nothing.
use Rattle.std.proofs.Common.{◌≡◌, refl, sym, ap, ◌∙◌, arith}
use Rattle.std.specs.Prelude.{Err}
use Rattle.std.proofs.lemmas.Result.{err_from_is_err_and}
use Rattle.rdp_words.specs.Grounds.{answered}
use Rattle.rdp_words.proofs.GroundLaws.{refused-number}
use Rattle.rdp_command.specs.Decode.{answer}
use Rattle.rdp_check.specs.Check.{check_of}
use Rattle.rdp_draw.specs.Draw.{memories}
use Rattle.rdp_draw.proofs.DrawLaws.{accepted, answer-checked, answer-texture, answer-acts, drawn-kept, drawn-acted}
use Rattle.rdp_draw.proofs.draw.Goals.{In_ok-check}
use Rattle.rdp_draw.proofs.draw.Goals as goal

-- past the check's refusal
accepts : (c : In_ok-check) → (check_of c.args.list.now).number ≡ 0
accepts c = sym (ap (λ k. k.number) c.in_ok-check.ensures)

pub returns-in_err-check : goal.returns-in_err-check
returns-in_err-check c =
    let s = c.args in
    let m = memories s.memory.now s.texture.now in
    let p = err_from_is_err_and c.from_residual.result c.from_residual.ensures.1 in
    let refused = c.in_err-check.ensures in
    let said = ap answered p.1 ∙ ap (λ q. answered (Err q)) p.2 ∙ ap (λ k. answer k.number k.place) refused in
    let some : (check_of s.list.now).number ≡ 0 → ⊥ = λ z. refused-number _ (ap (λ k. k.number) refused ∙ z) in
    let r = said ∙ answer-checked s.list.now s.start m some in
    let kept = drawn-kept s.list.now s.start m _ r (λ z. some (sym (ap (λ k. k.number) said) ∙ z)) in
    record { answer = r; memory = ap (λ x. x.memory) kept; texture = ap (λ x. x.texture) kept }

pub returns-then-texture-ne-TEXTURE_BYTES : goal.returns-then-texture-ne-TEXTURE_BYTES
returns-then-texture-ne-TEXTURE_BYTES c =
    let s = c.args in
    let m = memories s.memory.now s.texture.now in
    let r = answer-texture s.list.now s.start m (accepts (goal.at.returns-then-texture-ne-TEXTURE_BYTES c).In_ok-check) c.if-texture-ne-TEXTURE_BYTES.true in
    let kept = drawn-kept s.list.now s.start m _ r (λ z. omega arith) in
    record { answer = r; memory = ap (λ x. x.memory) kept; texture = ap (λ x. x.texture) kept }

pub first_refusal-requires : goal.first_refusal-requires
first_refusal-requires c =
    let a = accepted _ (accepts (goal.at.first_refusal-requires c).In_ok-check) in
    (refl, (omega (arith, a.few), a.whole))

pub returns-in-Err : goal.returns-in-Err
returns-in-Err c =
    let s = c.args in
    let m = memories s.memory.now s.texture.now in
    let r = c.in-Err.ensures ∙ answer-acts s.list.now s.start m (accepts (goal.at.returns-in-Err c).In_ok-check) c.if-texture-ne-TEXTURE_BYTES.false in
    let kept = drawn-kept s.list.now s.start m _ r (λ z. refused-number _ z) in
    record { answer = r; memory = ap (λ x. x.memory) kept; texture = ap (λ x. x.texture) kept }

pub act_all-requires : goal.act_all-requires
act_all-requires c =
    let a = accepted _ (accepts (goal.at.act_all-requires c).In_ok-check) in
    record {
      words_value = (refl, (omega (arith, a.few), a.whole));
      texture_len = (c.if-texture-ne-TEXTURE_BYTES.false, sym (ap (λ r. r.number) c.in-Ok.ensures));
    }

pub returns-in-Ok : goal.returns-in-Ok
returns-in-Ok c =
    let s = c.args in
    let m = memories s.memory.now s.texture.now in
    let r = c.in-Ok.ensures ∙ answer-acts s.list.now s.start m (accepts (goal.at.returns-in-Ok c).In_ok-check) c.if-texture-ne-TEXTURE_BYTES.false in
    let done = c.act_all.ensures ∙ drawn-acted s.list.now s.start m _ r refl in
    record { answer = r; memory = ap (λ x. x.memory) done; texture = ap (λ x. x.texture) done }
