pub mod Block
-- No public contract cites these.
pub mod Strips
pub mod Views
