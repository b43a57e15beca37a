pub mod Accepting
pub mod Examples
pub mod Findings
pub mod ItemSteps
pub mod PositionalSteps
pub mod RightWords
pub mod Ranges
