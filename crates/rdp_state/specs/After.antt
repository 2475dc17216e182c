-- Document 01, "Words and lengths": the registers after a list, with the check's answer.
use Rattle.std.specs.Prelude.{ℕ, List}
use Rattle.rdp_check.specs.Check.{outcome_of}
use Rattle.rdp_words.specs.Grounds.{answered}
use Rattle.rdp_check.specs.declared.Registers.{Registers}
use Rattle.rdp_state.specs.declared.ListState as told

-- the check's number and place, with the hazards and the registers there
pub record ListState : Type 0 where
  pub number : ℕ
  pub place : ℕ
  pub hazards : ℕ
  pub registers : Registers

-- what is told of them, in the papers' numbers
abbrev pub list_state_in : told.ListState → ListState
list_state_in s =
    let a = answered s.outcome in
    record { number = a.number; place = a.place; hazards = s.hazards; registers = s.registers }

-- what the registers after a list are: number, place and the state there
abbrev pub list_state_of : List ℕ → ListState
list_state_of list =
    let o = outcome_of list in
    record { number = o.number; place = o.place; hazards = o.state.hazards; registers = o.state.registers }
