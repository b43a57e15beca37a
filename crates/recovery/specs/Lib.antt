pub mod Givens
pub mod TurnFor
pub mod Reports
pub mod Keeping
