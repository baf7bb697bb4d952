pub mod Asking
pub mod Keeping
pub mod Overtaking
pub mod Owning
