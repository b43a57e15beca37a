pub mod Routes
pub mod Sets
