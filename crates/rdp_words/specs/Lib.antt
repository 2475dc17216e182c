pub mod Words
pub mod Kinds
pub mod Lengths
pub mod Grounds
