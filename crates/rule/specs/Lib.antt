pub mod Slots
pub mod Rule
pub mod Words
pub mod Sweep
