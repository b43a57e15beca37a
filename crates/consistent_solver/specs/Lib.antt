pub mod CoreLists
pub mod Readers
pub mod Sweeps
