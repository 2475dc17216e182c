pub mod Commands
pub mod Registers
pub mod Order
pub mod Cause
pub mod Check
pub mod Checkpoint
pub mod Refusals
pub mod View
