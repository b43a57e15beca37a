pub mod Counting
pub mod Deltas
pub mod JobParts
pub mod Places
pub mod WorldSteps
