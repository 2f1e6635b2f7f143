pub mod LengthLaws
pub mod ParameterLaws
pub mod OrderLaws
pub mod Sent
pub mod Samples
