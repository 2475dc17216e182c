pub mod Draw
pub mod Refusals
pub mod Written
pub mod Seen
