pub mod Layout
pub mod Answers
pub mod RoundTrips
pub mod Exactly
