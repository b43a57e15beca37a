pub mod AllKept
mod Classes
mod Correcting
mod Dying
mod Examples
mod Knowing
mod OwnPart
mod Stabilising
pub mod Named
