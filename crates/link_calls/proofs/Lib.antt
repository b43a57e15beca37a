pub mod Lending
pub mod Ready
pub mod Returned
