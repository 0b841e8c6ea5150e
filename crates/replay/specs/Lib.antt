pub mod Texts
pub mod Chunks
pub mod Lines
pub mod Turns
