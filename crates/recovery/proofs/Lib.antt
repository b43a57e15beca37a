pub mod Events
pub mod Reported
pub mod Sent
pub mod Turns
pub mod Worded
