pub mod Neighbours
pub mod Ordering
