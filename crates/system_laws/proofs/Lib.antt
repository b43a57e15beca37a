pub mod Arrive
pub mod Honest
pub mod Kept
pub mod SeatsApart
pub mod Settled
pub mod TookArrive
pub mod TookWorlds
pub mod WorldsKept
