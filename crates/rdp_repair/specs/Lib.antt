pub mod Inserted
pub mod Plan
pub mod Repair
pub mod Afresh
pub mod Best
pub mod Work
