pub mod Sides
pub mod Held
pub mod Staged
pub mod Finding
pub mod Putting
pub mod Joins
pub mod Turning
pub mod TurningLeft
