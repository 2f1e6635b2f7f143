pub mod Faults
pub mod Said
pub mod Answers
