pub mod Lists
pub mod Marks
pub mod Places
pub mod Readings
pub mod Scans
