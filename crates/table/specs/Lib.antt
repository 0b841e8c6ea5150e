pub mod Gcd
pub mod Rows
pub mod Windows
pub mod Check
