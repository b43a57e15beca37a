pub mod Answering
pub mod Ending
pub mod InStep
pub mod Mailed
pub mod Renewals
