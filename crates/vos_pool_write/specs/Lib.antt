pub mod Lists
pub mod Written
pub mod Coming
pub mod Several
pub mod Prepared
pub mod Preparing
pub mod Asked
