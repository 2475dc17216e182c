pub mod Differing
pub mod Entries
pub mod Part
pub mod Places
pub mod Same
pub mod Steps
pub mod Examples
