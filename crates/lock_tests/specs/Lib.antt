pub mod Children
pub mod Tallies
