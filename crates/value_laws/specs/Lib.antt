pub mod Candidates
pub mod EdgeLaws
pub mod GatherLaws
