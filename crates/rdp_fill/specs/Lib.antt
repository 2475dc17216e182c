pub mod Fill
pub mod Meaning
pub mod Width
pub mod Runs
pub mod Pattern
