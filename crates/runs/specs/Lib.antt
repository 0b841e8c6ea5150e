pub mod Demand3
pub mod Demand2
