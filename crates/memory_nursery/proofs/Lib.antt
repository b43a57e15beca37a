pub mod Counted
pub mod Ending
pub mod Opening
pub mod Returning
pub mod Spawning
pub mod Taking
pub mod Tallying
