-- `rdp_check::onward::rest_at` meets its contract, by those of what it calls. Assumes nothing.
use mathlib.Core.Bool.{Bool, not}
use mathlib.Core.Path.{◌∙◌, ap}
use Rattle.rdp_check.specs.declared.walk.Seen.{Seen}
use lib.Dec.{eqb}
use Rattle.rdp_command.specs.declared.FillFields.{FillFields}
use Rattle.rdp_check.specs.View.{code, view_of}
use Rattle.rdp_check.specs.Checkpoint.{registers_at}
use Rattle.rdp_check.specs.declared.walk.Rest.{Rest}
use Rattle.rdp_check.proofs.onward.rest_at.Goals as goal

abbrev built : Bool → Seen → Seen → Bool → Rest
built ended modes image scissor = record { ended = ended; modes = modes; image = image; scissor = scissor }

pub returns : goal.returns
unfolding view_of registers_at
returns c =
    let b = c.args.before in
    let read = c.fill_fields-fields.ensures in
    let modes = c.code_of-modes_code.ensures ∙ ap (λ (f : FillFields). code (not (eqb b.other_modes 0)) (eqb f.cycle_type 3)) read in
    let image = c.code_of-image_code.ensures ∙ ap (λ (f : FillFields). code (not (eqb b.color_image 0)) (eqb f.image.size 0)) read in
    λ i. built b.ended (modes i) (image i) (not (eqb b.scissor 0))
