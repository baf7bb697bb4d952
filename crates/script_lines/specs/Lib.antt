pub mod Fits
pub mod Lines
pub mod Ops
pub mod Verbs
