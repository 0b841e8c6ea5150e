pub mod Pairs
pub mod Answers
pub mod Exactly
pub mod Turns
