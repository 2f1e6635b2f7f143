pub mod ShareLaws
pub mod LengthLaws
pub mod HeadLaws
pub mod Samples
