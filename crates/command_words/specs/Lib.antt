pub mod CommandFits
pub mod CommandTable
pub mod CommandWords
pub mod Judging
