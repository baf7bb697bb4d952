-- What clients ask of targets, and what follows for what other facts make use of.
pub mod Sending
pub mod MoreSending
pub mod Staying
pub mod Rows
pub mod Laws
