pub mod Existence
pub mod Pulled
pub mod Ranks
pub mod Settled
pub mod Sorting
pub mod Stamping
