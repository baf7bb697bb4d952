pub mod Held
pub mod Opening
pub mod Reopening
pub mod Standing
