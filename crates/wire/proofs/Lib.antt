pub mod NumberLaws
pub mod FrontLaws
pub mod ListLaws
pub mod SumLaws
pub mod CountLaws
pub mod AnswerLaws
pub mod VectorLaws
pub mod Writing
