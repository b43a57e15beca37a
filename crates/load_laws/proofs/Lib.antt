pub mod Pieces
pub mod Triples
pub mod PartEntries
pub mod WholeLoads
pub mod GraphParts
