pub mod Answer
pub mod Refusals
pub mod Numbers
pub mod Front
pub mod Vectors
pub mod Sums
pub mod Stops
