-- Document 02, #103: the commands that a portion makes complete, judged from where the list stands.
use Rattle.std.specs.Prelude.{ℕ, Bool, cond, not, List, [], ◌≡◌, ltb, eqb, length}
use Rattle.rdp_command.specs.Reads.{other_modes_in, scissor_in, color_image_in}
use Rattle.rdp_command.specs.declared.OtherModes.{OtherModes}
use Rattle.rdp_command.specs.declared.Scissor.{Scissor}
use Rattle.rdp_command.specs.declared.Image.{Image}
use Rattle.rdp_check.specs.Commands.{commands_of}
use Rattle.rdp_check.specs.Registers.{no_registers, with_modes, with_images, modes_of, images_of}
use Rattle.rdp_check.specs.Check.{State, check_refusals, Judgement, outcome, judge}
use Rattle.rdp_check.specs.declared.Register.{Register}
use Rattle.rdp_check.specs.declared.Registers.{Registers}
use Rattle.rdp_check.specs.declared.Checkpoint.{Checkpoint}
use Rattle.rdp_words.specs.Grounds.{answered}
use Rattle.rdp_check.specs.declared.Judged as told

-- a register by the word that last set it, 0 where none has come: such a word has the number of its command in it, so it is not 0
abbrev pub other_modes_by : ℕ → Register OtherModes
other_modes_by w = record { set = not (eqb w 0); value = other_modes_in w }

abbrev pub scissor_by : ℕ → Register Scissor
scissor_by w = record { set = not (eqb w 0); value = scissor_in w }

abbrev pub color_image_by : ℕ → Register Image
color_image_by w = record { set = not (eqb w 0); value = color_image_in w }

-- the registers that the check reads; those that it doesn't read are not set
unfoldable pub registers_at : Checkpoint → Registers
registers_at b =
    let m = no_registers.modes in
    let i = no_registers.images in
    with_images (with_modes no_registers (modes_of (other_modes_by b.other_modes) m.depth (scissor_by b.scissor)))
    (images_of (color_image_by b.color_image) i.texture i.depth)

-- the state there
abbrev pub state_at : Checkpoint → State
state_at b = record { hazards = b.hazards; ended = b.ended; registers = registers_at b }

-- the number of the first refusal of some commands, 0 where none is refused; its place, or that after the last; and the hazards and whether a Sync Full has come there
pub record Judged : Type 0 where
  pub number : ℕ
  pub place : ℕ
  pub hazards : ℕ
  pub ended : Bool

-- what is told of them, in the papers' numbers
abbrev pub judged_in : told.Judged → Judged
judged_in j = record { number = (answered j.outcome).number; place = (answered j.outcome).place; hazards = j.hazards; ended = j.ended }

-- number and place of an outcome, with what it has of its state
abbrev pub judged_of : Judgement → Judged
judged_of o = record { number = o.number; place = o.place; hazards = o.state.hazards; ended = o.state.ended }

-- the whole commands of bytes; one that is cut is not looked at. 1: over 32,768 bytes, at 4,096, and none is judged
unfoldable pub check_from : Checkpoint → List ℕ → Judged
check_from b bs =
    judged_of
    (cond (ltb 32768 (length bs)) (outcome 1 4096 (state_at b)) (judge check_refusals (state_at b) 0 (commands_of bs) []))

-- what it is for a state to stand at a checkpoint: what the check reads of it is there
pub record StandsAt (b : Checkpoint) (s : State) : Type 0 where
  pub hazards : s.hazards ≡ b.hazards
  pub ended : s.ended ≡ b.ended
  pub modes : s.registers.modes.other ≡ other_modes_by b.other_modes
  pub scissor : s.registers.modes.scissor ≡ scissor_by b.scissor
  pub image : s.registers.images.color ≡ color_image_by b.color_image
