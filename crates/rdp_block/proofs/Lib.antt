pub mod StripLaws
pub mod LineLaws
pub mod EndLaws
pub mod BlockLaws
pub mod ExampleTests
