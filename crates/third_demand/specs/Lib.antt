pub mod Demand
pub mod Run
