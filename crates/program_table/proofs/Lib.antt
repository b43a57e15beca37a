pub mod Pieces
pub mod ReadBack
pub mod RowSteps
pub mod Shapes
pub mod StartLists
