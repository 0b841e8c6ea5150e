pub mod Order
pub mod Lent
pub mod Settles
pub mod Unique
