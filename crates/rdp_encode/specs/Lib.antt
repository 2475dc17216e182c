pub mod Placed
pub mod Encode
pub mod Numbers
pub mod Kept
pub mod Table
pub mod Steps
