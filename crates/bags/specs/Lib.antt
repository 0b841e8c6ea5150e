pub mod Orders
pub mod Lines
