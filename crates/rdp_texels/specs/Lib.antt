pub mod Texels
pub mod Load
pub mod Copy
pub mod Refusals
pub mod Run
pub mod Written
-- No public contract cites this.
pub mod Rows
pub mod Views
