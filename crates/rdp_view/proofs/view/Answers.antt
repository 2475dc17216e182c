-- The refusals one after the other, then the pixels. Assumes nothing.
use Rattle.std.proofs.Common.{◌≡◌, sym, ap, ◌∙◌, false, ℕ, ◌*◌, length, arith}
use Rattle.rdp_command.specs.Decode.{answer}
use Rattle.rdp_view.specs.Sizes.{size_number}
use Rattle.rdp_view.specs.View.{pixel_bytes, image_outside, unviewable, Framebuffer, pixel_count, framebuffer_at}
use Rattle.rdp_view.proofs.ViewLaws.{same-outside, same-pixels, refused-27, refused-12, refused-14, viewed}
use Rattle.rdp_view.proofs.view.Goals.{In-Some}
use Rattle.rdp_view.proofs.view.Goals as goal

-- the image that is shown
module _ (c : In-Some) where
  abbrev image : Framebuffer
  image = framebuffer_at c.args.address c.args.width c.args.height c.args.size

  fit : unviewable c.args.width c.args.height c.args.size ≡ false
  fit = c.in-Some.ensures.0

  count-is : c.in-Some.image.count ≡ pixel_count image
  count-is = c.in-Some.ensures.2

  outside-is : image_outside c.args.start (length c.args.memory.now) c.in-Some.image.address (c.in-Some.image.count * pixel_bytes (size_number c.in-Some.image.size))
      ≡ image_outside c.args.start (length c.args.memory.now) c.args.address (pixel_count image * pixel_bytes c.args.size)
  outside-is = same-outside c.args.start (length c.args.memory.now) c.in-Some.ensures.1 c.in-Some.ensures.2 c.in-Some.ensures.3

pub returns-in_default : goal.returns-in_default
returns-in_default c =
    let a = c.args in
    let r = refused-27 a.memory.now a.start (framebuffer_at a.address a.width a.height a.size) a.out.now c.in_default.ensures in
    record { answer = r.answers; output = r.leaves }

pub returns-in_default-index_in : goal.returns-in_default-index_in
returns-in_default-index_in c =
    let a = c.args in
    let there = (goal.at.returns-in_default-index_in c).In-Some in
    let r = refused-12 a.memory.now a.start (image there) a.out.now (fit there) (sym (outside-is there) ∙ c.in_default-index_in.ensures) in
    record { answer = r.answers; output = r.leaves }

pub returns-then-out-needed : goal.returns-then-out-needed
returns-then-out-needed c =
    let a = c.args in
    let there = (goal.at.returns-then-out-needed c).In-Some in
    let r =
    refused-14 a.memory.now a.start (image there) a.out.now (fit there) (sym (outside-is there) ∙ c.in-Some-index_in.ensures.0)
    (omega (arith, count-is there, c.if-out-needed.true)) in
    record { answer = ap (λ (k : ℕ). answer 14 (4 * k)) (count-is there) ∙ r.answers; output = r.leaves }

pub returns : goal.returns
returns c =
    let a = c.args in
    let there = (goal.at.returns c).In-Some in
    let shown = c.in-Some.ensures in
    let r =
    viewed a.memory.now a.start (image there) a.out.now (fit there) (sym (outside-is there) ∙ c.in-Some-index_in.ensures.0)
    (omega (arith, count-is there, c.if-out-needed.false))
    _
    (c.write.ensures ∙ same-pixels a.memory.now a.out.now a.start shown.1 shown.2 shown.3 c.in-Some-index_in.ensures.1) in
    record { answer = ap (λ (k : ℕ). answer 0 (4 * k)) (count-is there) ∙ r.answers; output = r.leaves }
