pub mod PartLaws
pub mod ShowLaws
