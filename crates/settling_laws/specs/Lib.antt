pub mod SettledWorlds
pub mod Settling
