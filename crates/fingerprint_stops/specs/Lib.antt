pub mod Stops
pub mod Code
