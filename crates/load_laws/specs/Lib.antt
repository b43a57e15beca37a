pub mod PartFrames
