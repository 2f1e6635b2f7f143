pub mod Table
pub mod TestLaws
pub mod TableLaws
