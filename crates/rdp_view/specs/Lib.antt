pub mod View
pub mod Picture
pub mod Sizes
