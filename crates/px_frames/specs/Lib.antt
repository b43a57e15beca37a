pub mod Decodings
pub mod Feeds
pub mod Fronts
