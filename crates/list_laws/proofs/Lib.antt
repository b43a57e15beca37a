pub mod Delivered
pub mod Lists
pub mod Ordered
pub mod Ranges
pub mod Routes
pub mod Sets
pub mod Sums
pub mod Told
