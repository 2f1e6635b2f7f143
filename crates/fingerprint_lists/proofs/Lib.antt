pub mod GoodLaws
pub mod FillLaws
pub mod WalkLaws
pub mod ReadLaws
