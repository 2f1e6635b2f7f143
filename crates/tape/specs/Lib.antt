pub mod Tape
pub mod Part
