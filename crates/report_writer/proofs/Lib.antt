pub mod Again
pub mod Inner
pub mod Joins
pub mod Keys
pub mod Law
pub mod NamesAgain
pub mod Prefix
pub mod Reading
