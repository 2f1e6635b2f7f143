pub mod Digits
pub mod Decimal
pub mod Hex
pub mod Shown
pub mod Answers
pub mod Names
pub mod Parts
