pub mod Building
pub mod Endings
pub mod Ids
pub mod Listing
pub mod Rows
pub mod Texts
