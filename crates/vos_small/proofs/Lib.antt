pub mod Counting
pub mod Smallness
pub mod Fitting
