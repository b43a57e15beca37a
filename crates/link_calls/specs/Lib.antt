pub mod Silent
pub mod Asked
