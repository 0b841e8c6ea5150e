pub mod Orders
pub mod Figures
pub mod Parts
