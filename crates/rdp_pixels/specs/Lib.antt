pub mod Overlay
pub mod Range
pub mod Kept
