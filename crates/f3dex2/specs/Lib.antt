pub mod Commands
pub mod Walk
pub mod Translate
pub mod Written
pub mod Examples
pub mod Steps
