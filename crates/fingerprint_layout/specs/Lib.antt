pub mod Layout
pub mod Code
