pub mod Sessions
pub mod Stages
pub mod Streams
pub mod Talks
