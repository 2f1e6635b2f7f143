pub mod ProfileLaws
pub mod MadeLaws
pub mod ThirdDemand
pub mod MixedFrames
pub mod Witness
pub mod RunLaws
pub mod Samples
