pub mod Candidates
pub mod Entries
pub mod Fields
pub mod Lengths
pub mod ReadNumbers
pub mod Rising
pub mod Rooms
pub mod Unspelled
