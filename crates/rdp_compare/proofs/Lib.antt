pub mod WordLaws
pub mod DifferingLaws
pub mod MaskLaws
pub mod GroundLaws
pub mod PairLaws
pub mod SameLaws
pub mod ExampleLaws
pub mod BoundLaws
