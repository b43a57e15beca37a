mod Examples
pub mod InTime
pub mod Near
pub mod NearAlways
pub mod Spent
pub mod Suffice
