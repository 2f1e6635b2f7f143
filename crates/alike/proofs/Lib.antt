pub mod SameLaws
pub mod AlikeLaws
pub mod AnswerLaws
pub mod PlaceLaws
pub mod CountLaws
pub mod LengthLaws
pub mod ShownAlike
pub mod Samples
