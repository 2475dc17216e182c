pub mod TableTests
pub mod HazardLaws
