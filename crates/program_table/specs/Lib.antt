pub mod FieldWords
pub mod StartRanges
