pub mod Profile
pub mod Sizes
pub mod Table
pub mod Test
pub mod Rows
pub mod Code
