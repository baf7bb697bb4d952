pub mod Sites
pub mod Fused
pub mod Reopened
pub mod Begun
