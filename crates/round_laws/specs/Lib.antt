pub mod OnTime
pub mod Rounds
