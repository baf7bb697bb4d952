pub mod Updates
pub mod Settling
pub mod Punched
pub mod Each
pub mod Moments
pub mod Refusals
