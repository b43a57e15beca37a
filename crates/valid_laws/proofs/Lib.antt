pub mod Between
pub mod CountKept
pub mod CountStep
pub mod CountValid
pub mod Runs
pub mod Valid
