pub mod PixelLaws
pub mod ViewLaws
pub mod PictureLaws
