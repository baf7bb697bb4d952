pub mod Told
pub mod Hearing
pub mod Kept
pub mod Lighter
pub mod TurnSteps
pub mod Plans
