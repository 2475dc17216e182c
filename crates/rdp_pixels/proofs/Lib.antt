pub mod BoolLaws
pub mod OverlayLaws
pub mod RangeLaws
pub mod KeptLaws
