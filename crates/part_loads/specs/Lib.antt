pub mod Keeping
pub mod Loads
