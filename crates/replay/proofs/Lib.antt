pub mod Laying
pub mod Decimals
pub mod SlotLines
pub mod EndLines
pub mod Chunks
pub mod Printed
pub mod ChunkCases
pub mod Replaying
