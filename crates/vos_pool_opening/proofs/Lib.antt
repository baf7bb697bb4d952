pub mod Ways
pub mod Begins
pub mod Forming
pub mod Finding
pub mod Begun
pub mod HeldNow
