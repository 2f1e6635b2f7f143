pub mod StepLaws
pub mod BlockLaws
pub mod WalkLaws
pub mod Samples
