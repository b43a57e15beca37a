pub mod Fitting
pub mod Listing
pub mod Mails
pub mod Making
pub mod Ranging
pub mod Written
