pub mod Mail
pub mod Stepped
