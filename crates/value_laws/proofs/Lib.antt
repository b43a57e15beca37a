pub mod FirstAbsent
pub mod LeastGrows
pub mod NeverImproving
