pub mod KeptFacts
pub mod Starts
