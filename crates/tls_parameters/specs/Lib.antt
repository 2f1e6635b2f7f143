pub mod Parameters
pub mod Writing
