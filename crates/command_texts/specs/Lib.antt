pub mod Endings
pub mod Jobs
pub mod Plans
pub mod Solutions
pub mod Texts
pub mod Ways
