pub mod Tables
pub mod Check
pub mod Standing
pub mod Lists
pub mod HandOut
pub mod Demand
pub mod Exactly
pub mod Turns
