pub mod SeenLaws
pub mod DrawLaws
pub mod DrawnLaws
pub mod CopyLaws
pub mod ByteLaws
pub mod ActLaws
pub mod BoundLaws
