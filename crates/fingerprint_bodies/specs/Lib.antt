pub mod Entries
pub mod Body
pub mod Forms
pub mod Conditions
pub mod Code
