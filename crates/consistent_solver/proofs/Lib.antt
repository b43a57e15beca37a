pub mod Below
pub mod Listed
pub mod Reaching
pub mod Sweeping
pub mod Telling
pub mod Turning
