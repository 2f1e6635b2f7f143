pub mod Hello
pub mod Make
pub mod Writing
