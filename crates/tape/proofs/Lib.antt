pub mod DrawLaws
pub mod ShuffleLaws
pub mod PlaceLaws
pub mod DrawnNumbers
pub mod PartLaws
pub mod Samples
