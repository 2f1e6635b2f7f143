pub mod SumLaws
pub mod PartLaws
pub mod ReadingLaws
