mod AllSettles
pub mod ByWalks
pub mod ClassFacts
pub mod Depths
pub mod ExampleJobs
mod Examples
pub mod Numbers
pub mod Peeling
pub mod Renewals
