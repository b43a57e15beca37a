pub mod Scripts
pub mod States
pub mod Keeping
pub mod Tallies
pub mod Views
