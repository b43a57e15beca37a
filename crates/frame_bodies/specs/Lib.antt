pub mod Bodies
pub mod Codes
pub mod Setups
pub mod Widths
