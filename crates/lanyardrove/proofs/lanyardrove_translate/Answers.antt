-- `lanyardrove::lanyardrove_translate` meets its contract: the translation's answer fits its bits. Assumes nothing.
use Rattle.std.proofs.Common.{◌≡◌, ℕ, List, ap, ◌∙◌, min, take, length, arith}
use Rattle.f3dex2.specs.Translate.{Translated, translate_answer}
use Rattle.lanyardrove.specs.Replies.{lent_part, of_translate}
use Rattle.lanyardrove.proofs.BoundLaws.{small}
use Rattle.lanyardrove.proofs.lanyardrove_translate.Goals.{In-Ok, In-Err}
use Rattle.lanyardrove.proofs.lanyardrove_translate.Goals as goal

-- of the lent part of the memory
whole :
    (memory : List ℕ) (start room end : ℕ) → end ≡ min (length memory) 0xFFFFFFF8 → (t : Translated) → t ≡ translate_answer (take end memory) start room →
    t ≡ translate_answer (lent_part memory) start room
whole memory start room end is t e = e ∙ ap (λ (k : ℕ). translate_answer (take k memory) start room) is

pub overflow_cast-made : goal.overflow_cast-made
overflow_cast-made c =
    let a = c.args in
    let b = small (of_translate a.memory.now a.start (length a.out.now) c.ranges.start.fits) in
    let e = ap (λ (t : Translated). t.read) (whole _ _ _ _ c.capped-end.ensures _ c.in-Ok.ensures.answer) in
    search (arith, b.third, e)

pub overflow_cast-made-in-Ok : goal.overflow_cast-made-in-Ok
overflow_cast-made-in-Ok c =
    let a = c.args in
    let b = small (of_translate a.memory.now a.start (length a.out.now) c.ranges.start.fits) in
    let e = ap (λ (t : Translated). t.place) (whole _ _ _ _ c.capped-end.ensures _ c.in-Ok.ensures.answer) in
    search (arith, b.place, e)

pub pack-requires : goal.pack-requires
pack-requires c =
    let a = c.args in
    let b = small (of_translate a.memory.now a.start (length a.out.now) c.ranges.start.fits) in
    let e = ap (λ (t : Translated). t.read) (whole _ _ _ _ c.capped-end.ensures _ c.in-Ok.ensures.answer) in
    (omega arith, omega (arith, b.third, e))

pub overflow_cast-unmade : goal.overflow_cast-unmade
overflow_cast-unmade c =
    let a = c.args in
    let b = small (of_translate a.memory.now a.start (length a.out.now) c.ranges.start.fits) in
    let e = ap (λ (t : Translated). t.read) (whole _ _ _ _ c.capped-end.ensures _ c.in-Err.ensures.answer) in
    search (arith, b.third, e)

pub overflow_cast-unmade-in-Err : goal.overflow_cast-unmade-in-Err
overflow_cast-unmade-in-Err c =
    let a = c.args in
    let b = small (of_translate a.memory.now a.start (length a.out.now) c.ranges.start.fits) in
    let e = ap (λ (t : Translated). t.place) (whole _ _ _ _ c.capped-end.ensures _ c.in-Err.ensures.answer) in
    search (arith, b.place, e)

pub pack-requires-in-Err : goal.pack-requires-in-Err
pack-requires-in-Err c =
    let a = c.args in
    let b = small (of_translate a.memory.now a.start (length a.out.now) c.ranges.start.fits) in
    let number = ap (λ (t : Translated). t.number) (whole _ _ _ _ c.capped-end.ensures _ c.in-Err.ensures.answer) in
    let read = ap (λ (t : Translated). t.read) (whole _ _ _ _ c.capped-end.ensures _ c.in-Err.ensures.answer) in
    (omega (arith, b.number, number, c.from-number.ensures), omega (arith, b.third, read))
