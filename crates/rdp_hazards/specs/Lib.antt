pub mod Hazards
pub mod Syncs
pub mod Marks
