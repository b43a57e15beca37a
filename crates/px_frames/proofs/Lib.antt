pub mod Apart
pub mod Decoders
pub mod Headers
pub mod Keeping
pub mod Reading
