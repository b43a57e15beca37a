pub mod Counts
pub mod Plans
pub mod Links
pub mod Spawners
pub mod Nurseries
