pub mod Answered
pub mod Events
pub mod Openings
pub mod Turns
