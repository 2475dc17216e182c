pub mod RegisterWords
pub mod After
pub mod Resume
pub mod Replay
