pub mod Quiet
pub mod QuietByClass
pub mod QuietCounts
pub mod QuietFixed
pub mod Reported
