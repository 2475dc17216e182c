pub mod PixelLaws
pub mod InsideLaws
pub mod AreaLaws
pub mod WidthLaws
pub mod PatternLaws
pub mod RunLaws
