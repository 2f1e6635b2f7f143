pub mod Grammar
pub mod Lines
pub mod Rows
pub mod Steps
pub mod Numbered
