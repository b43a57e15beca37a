pub mod GrowingText
pub mod LookedUp
pub mod PartLines
pub mod ReadInputs
pub mod Solved
