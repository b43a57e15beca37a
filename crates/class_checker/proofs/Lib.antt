pub mod Kept
pub mod Improving
