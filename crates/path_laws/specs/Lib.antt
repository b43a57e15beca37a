pub mod ByIds
pub mod Paths
pub mod Readings
