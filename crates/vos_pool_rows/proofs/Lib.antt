pub mod Fused
pub mod Keeping
pub mod Written
