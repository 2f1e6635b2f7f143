pub mod DigitLaws
pub mod HexLaws
pub mod ShownLaws
pub mod AnswerLaws
pub mod NameLaws
pub mod ReadBack
pub mod ShownBack
pub mod Samples
