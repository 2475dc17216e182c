pub mod Tests
pub mod KindLaws
pub mod WordLaws
pub mod PlaceLaws
pub mod OverwriteLaws
pub mod GroundLaws
