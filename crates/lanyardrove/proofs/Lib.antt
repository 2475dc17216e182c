pub mod PackLaws
pub mod BoundLaws
pub mod ReplyLaws
