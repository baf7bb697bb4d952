-- What follows from the conversations of clients for what other facts make use of.
pub mod Handing
pub mod Fitting
pub mod Dates
pub mod Groups
pub mod Targets
pub mod Begun
pub mod Tellers
pub mod Places
pub mod Losing
pub mod Laws
