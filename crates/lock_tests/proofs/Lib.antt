pub mod Counting
pub mod Raising
pub mod Rows
