pub mod Layout
pub mod Fields
pub mod Groups
pub mod Commands
pub mod Decode
pub mod Reads
