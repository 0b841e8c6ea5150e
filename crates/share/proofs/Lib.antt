pub mod Quotient
pub mod Unique
pub mod Examples
