pub mod Answering
pub mod Ends
pub mod Quiet
pub mod Reading
pub mod Passing
pub mod Splitting
pub mod Stepping
pub mod Staging
