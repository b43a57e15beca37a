pub mod Carried
mod Examples
pub mod ReadEnds
