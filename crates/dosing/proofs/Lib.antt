pub mod JobWindows
pub mod Due
pub mod JobKinds
pub mod Meaning
