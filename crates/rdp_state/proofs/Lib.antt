pub mod RegisterLaws
pub mod ReplayLaws
pub mod StandingLaws
pub mod ResumeLaws
