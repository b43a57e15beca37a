pub mod Mutual
pub mod Peelings
