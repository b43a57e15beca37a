pub mod Counting
pub mod CoreExists
pub mod MutualReads
pub mod Peeled
