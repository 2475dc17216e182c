pub mod ActionLaws
pub mod StepLaws
pub mod RunLaws
pub mod MaskLaws
mod GroundLaws
pub mod TranslateLaws
pub mod RefusalLaws
pub mod BoundLaws
pub mod RoleLaws
pub mod WrittenLaws
pub mod DecodeLaws
pub mod ExampleLaws
