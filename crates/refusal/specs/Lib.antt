pub mod Numbers
pub mod Order
pub mod Lent
