pub mod PortionLaws
pub mod HeldLaws
pub mod FeedLaws
pub mod RecordLaws
pub mod ArrivedLaws
pub mod FitLaws
pub mod WaitLaws
pub mod StreamLaws
mod KnownLaws
