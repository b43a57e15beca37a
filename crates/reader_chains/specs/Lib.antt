pub mod Chains
pub mod Readers
