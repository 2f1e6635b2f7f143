pub mod Registry
pub mod Tables
pub mod Names
