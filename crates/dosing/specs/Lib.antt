pub mod Jobs
pub mod Bags
pub mod Turns
pub mod Meaning
