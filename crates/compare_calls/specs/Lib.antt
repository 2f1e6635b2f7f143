pub mod Sums
pub mod Calls
pub mod Reading
