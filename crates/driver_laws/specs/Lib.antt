pub mod Jobs
pub mod Turns
pub mod Seats
pub mod Endings
